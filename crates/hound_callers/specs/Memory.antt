-- A file in memory that is read, and why one isn't.
use Rattle.std.specs.Prelude.{◌⊎◌, ℕ, ◌<◌, List, Option, drop, length}
use Rattle.hound.specs.{AreFirstSamples, Cause, Error, IsCauseOf, Names, ReadRejection, Readable, SampleFormat, Unreadable, WavSpecEx}

-- these are all samples of a file, each of whose containers is whole
pub record HasAllSamples {A : Type 0} (meaning : SampleFormat → ℕ → ℕ → List ℕ → A) (bytes : List ℕ)
    (s : WavSpecEx) (values : List A) : Type 0 where
  pub start : ℕ
  pub readable : Readable bytes s (length values) start
  pub samples : AreFirstSamples meaning s (drop start bytes) values

-- the bytes have this error: they can't be read for its cause; or they can, and it is why fewer samples come of them
-- than the header counts
abbrev pub IsFaultOf : (SampleFormat → ℕ → ℕ → Option ReadRejection) → List ℕ → Error → Type 0
IsFaultOf rejection bytes e = ((cause : Cause) × Unreadable bytes cause × Names e cause)
    ⊎ ((s : WavSpecEx) × (samples : ℕ) × (start : ℕ) × Readable bytes s samples start
    × (count : ℕ) × (count < samples) × IsCauseOf rejection s count (drop start bytes) e)
