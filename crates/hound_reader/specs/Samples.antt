-- What contracts see of the iterators over samples.
use Rattle.std.specs.Prelude.{◌≡◌, ℕ, List, Option, Result}
use Rattle.std.specs.Borrow.{GName}
use Rattle.hound_spec.specs.declared.error.Error.{Error}
use Rattle.hound_spec.specs.declared.spec.SampleFormat.{SampleFormat}
use Rattle.hound_sample.specs.{ReadRejection}
use Rattle.hound_reader.specs.Reader.{ReaderState, IsNext}
use Rattle.hound_reader.specs.declared.samples.WavSamples.{WavSamples}
use Rattle.hound_reader.specs.declared.samples.WavIntoSamples.{WavIntoSamples}

module _ {R S : Type 0} where
  -- the reader whose samples are read, as it is now
  abbrev pub lent_reader : WavSamples R S → ReaderState R
  lent_reader samples = samples.reader.now

  -- the ghost name of the reference to it
  abbrev pub lender : WavSamples R S → GName
  lender samples = samples.reader.ghost_name

  -- `next`: the next sample of the reader, which stays the same one
  abbrev pub LendsNext : (R → Option (List ℕ)) → (SampleFormat → ℕ → ℕ → Option ReadRejection)
      → (SampleFormat → ℕ → ℕ → List ℕ → S) → WavSamples R S → Option (Result S Error) → WavSamples R S → Type 0
  LendsNext left rejection meaning old item new = (lender new ≡ lender old)
      × IsNext left rejection meaning item (lent_reader old) (lent_reader new)

  -- the reader that was taken, as it is now
  abbrev pub taken_reader : WavIntoSamples R S → ReaderState R
  taken_reader samples = samples.reader

  -- `next`: the next sample of the reader that was taken
  abbrev pub TakesNext : (R → Option (List ℕ)) → (SampleFormat → ℕ → ℕ → Option ReadRejection)
      → (SampleFormat → ℕ → ℕ → List ℕ → S) → WavIntoSamples R S → Option (Result S Error) → WavIntoSamples R S
      → Type 0
  TakesNext left rejection meaning old item new = IsNext left rejection meaning item (taken_reader old)
      (taken_reader new)
