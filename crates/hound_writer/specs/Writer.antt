-- What contracts see of a writer: its value, the two sizes of its file, and what the data length counts.
use Rattle.std.specs.Prelude.{◌≡◌, ℕ, ◌+◌, ◌-◌, List, ◌++◌, length, take, drop, ◌*◌, ◌/◌, ◌≤◌, Option, None, Some, ◌%◌}
use Rattle.hound_number.specs.{bytes_of, number}
use Rattle.std.specs.List.{concat}
use Rattle.hound_spec.specs.declared.spec.WavSpecEx.{WavSpecEx}
use Rattle.hound_sample.specs.{containers}
use Rattle.hound_walk.specs.declared.cause.Cause.{Cause}
use Rattle.hound_walk.specs.{Readable, Unreadable, data_fault}
use Rattle.std.specs.Io.{StartsWith}
use Rattle.hound_spec.specs.{header, data_start, riff_size, padded, padding, IsPair, greatest_u32}
use Rattle.hound_medium.specs.{MediumState, WhereTells}
-- What contracts know of media of a type W, `W.Placed`: whether their bytes are known (`tells`), whether each byte
-- written is recorded (`keeps`), and the state of each.
pub use Rattle.hound_medium.specs.declared.medium.Placed.{Ghosts}
use Rattle.hound_spec.specs.declared.spec.SampleFormat.TheVariants.{Int}

-- the number in the four bytes at a place
abbrev pub field : ℕ → List ℕ → ℕ
field p contents = number (take 4 (drop p contents))

-- before the data only the RIFF size at 4 and the data length have changed
pub record ChangesSizesOnly (data_start : ℕ) (old new : List ℕ) : Type 0 where
  pub front : take 4 new ≡ take 4 old
  pub middle : drop 8 (take (data_start - 4) new) ≡ drop 8 (take (data_start - 4) old)

-- the contents with these two sizes: the RIFF size at 4, the data length at p
unfoldable pub with_sizes : ℕ → ℕ → ℕ → List ℕ → List ℕ
with_sizes p size data_length contents =
    take 4 contents ++ (bytes_of 4 size ++ (drop 8
    (take p contents) ++ (bytes_of 4 data_length ++ drop (p + 4) contents)))

-- only the four bytes at 4 and the four at p differ
pub record SameButSizes (p : ℕ) (old new : List ℕ) : Type 0 where
  pub front : take 4 new ≡ take 4 old
  pub middle : drop 8 (take p new) ≡ drop 8 (take p old)
  pub beyond : drop (p + 4) new ≡ drop (p + 4) old
  pub long : length new ≡ length old

-- what reading gives, by the fault of a data length n: exactly the first n bytes of the accepted samples, or that n is
-- no whole samples or frames
abbrev pub ReadsFirst : Option Cause → WavSpecEx → ℕ → ℕ → List (List ℕ) → List ℕ → Type 0
ReadsFirst None s start n accepted contents =
    Readable contents s (n / s.bytes_per_sample) start
    × (containers s.bytes_per_sample (n / s.bytes_per_sample) (drop start contents)
    ≡ take (n / s.bytes_per_sample) accepted)
ReadsFirst (Some cause) s start n accepted contents = Unreadable contents cause

-- The data length counts no more than the accepted samples, enough of which are there to cover it; and reading gives
-- exactly the first ones it counts, or rejects a length of no whole frames (RIFF, "Waveform Audio File Format": the
-- data chunk).
pub record Counts (s : WavSpecEx) (start : ℕ) (accepted : List (List ℕ)) (contents : List ℕ) : Type 0 where
  pub samples : ℕ
  pub among : samples ≤ length accepted
  pub covers : field (start - 4) contents ≤ samples * s.bytes_per_sample
  pub stored : take (samples * s.bytes_per_sample) (drop start contents) ≡ concat (take samples accepted)
  pub reads : ReadsFirst (data_fault s (field (start - 4) contents)) s start
      (field (start - 4) contents) accepted contents

-- A writer: its medium, the spec, the place of the first data byte, how many bytes of the accepted samples are in the
-- medium, and the others, which are buffered in the writer. Then the memory that it holds for batches.
pub record WriterState (W : Type 0) : Type 0 where
  pub medium : W
  pub spec_ex : WavSpecEx
  pub data_start : ℕ
  pub bytes_written : ℕ
  pub buffered : List ℕ
  pub batch_memory : List ℕ

-- how many bytes were accepted
abbrev pub data_length : {W : Type 0} → WriterState W → ℕ
data_length w = w.bytes_written + length w.buffered

-- the place after the last of them
abbrev pub data_end : {W : Type 0} → WriterState W → ℕ
data_end w = w.data_start + data_length w

-- the place after the pad byte that follows data of an odd length
abbrev pub padded_end : {W : Type 0} → WriterState W → ℕ
padded_end w = w.data_start + padded (data_length w)

-- after the accepted data these contents have the pad byte, if the data have an odd length
abbrev pub IsPadded : {W : Type 0} → WriterState W → List ℕ → Type 0
IsPadded w contents = StartsWith (drop (data_end w) contents) (padding (data_length w))

-- how many samples were accepted, of all channels together
abbrev pub sample_count : {W : Type 0} → WriterState W → ℕ
sample_count w = data_length w / w.spec_ex.bytes_per_sample

-- the accepted samples are a whole number of frames
abbrev pub AreFrames : {W : Type 0} → WriterState W → Type 0
AreFrames w = sample_count w % w.spec_ex.spec.channels ≡ 0

-- the RIFF size of the file with this many more bytes fits 32 bits
abbrev pub HasRoom : {W : Type 0} → WriterState W → ℕ → Type 0
HasRoom w more = riff_size w.data_start (data_length w + more) ≤ greatest_u32

-- What holds for every writer, over any medium: its bits and width are a known pair, it can divide by the channels and
-- the width, its samples are whole, and the RIFF size fits its field.
pub record IsSound {W : Type 0} (w : WriterState W) : Type 0 where
  pub pair : IsPair w.spec_ex.spec.sample_format w.spec_ex.spec.bits_per_sample w.spec_ex.bytes_per_sample
  pub channels : 1 ≤ w.spec_ex.spec.channels
  pub width : 1 ≤ w.spec_ex.bytes_per_sample
  pub whole : data_length w % w.spec_ex.bytes_per_sample ≡ 0
  pub after_head : 20 ≤ w.data_start
  pub fits : riff_size w.data_start (data_length w) ≤ greatest_u32

-- The accepted bytes: those in the medium are where the data begin, and the buffered ones follow them.
abbrev pub accepted_bytes : {W : Type 0} → (W → MediumState) → WriterState W → List ℕ
accepted_bytes state w = take w.bytes_written (drop w.data_start (state w.medium).contents) ++ w.buffered

-- the accepted samples, as their containers
abbrev pub accepted_samples : {W : Type 0} → (W → MediumState) → WriterState W → List (List ℕ)
accepted_samples state w = containers w.spec_ex.bytes_per_sample (sample_count w) (accepted_bytes state w)

-- the medium has all accepted bytes that were written
abbrev pub IsWhole : {W : Type 0} → (W → MediumState) → WriterState W → Type 0
IsWhole state w = w.data_start + w.bytes_written ≤ length (state w.medium).contents

-- the data length counts no more than the accepted samples, and reading gives the first of them
abbrev pub IsCounted : {W : Type 0} → (W → MediumState) → WriterState W → Type 0
IsCounted state w = Counts w.spec_ex w.data_start (accepted_samples state w) (state w.medium).contents

-- how many bytes a block holds
abbrev pub block_length : ℕ
block_length = 4096

-- What holds of every writer: it is sound, no more than a block is buffered, and its data length counts accepted
-- samples if the medium has all their bytes.
pub record IsValid {W : Type 0} (kind : Ghosts W) (w : WriterState W) : Type 0 where
  pub sound : IsSound w
  pub buffered : length w.buffered ≤ block_length
  pub counts : WhereTells kind.tells (IsWhole kind.state w → IsCounted kind.state w)

-- the contents begin with the header of this spec, with any two sizes
abbrev pub HasHeader : WavSpecEx → List ℕ → Type 0
HasHeader spec_ex contents = (size : ℕ) × (data_length : ℕ) × StartsWith contents (header spec_ex size data_length)

-- a file that was begun with the header of its spec, by this writer or by one before it
abbrev pub IsBegun : {W : Type 0} → (W → MediumState) → WriterState W → Type 0
IsBegun state w = HasHeader w.spec_ex (state w.medium).contents × (w.data_start ≡ data_start w.spec_ex)

-- A writer of the same samples: of its value only the medium has changed, and the buffered samples may have been
-- written.
pub record HasSameSamples {W : Type 0} (old new : WriterState W) : Type 0 where
  pub spec_ex : new.spec_ex ≡ old.spec_ex
  pub data_start : new.data_start ≡ old.data_start
  pub data_length : data_length new ≡ data_length old
  pub batch_memory : new.batch_memory ≡ old.batch_memory

-- samples of sixteen bits, as integers
abbrev pub IsSixteen : WavSpecEx → Type 0
IsSixteen s = (s.spec.sample_format ≡ Int) × (s.spec.bits_per_sample ≡ 16)
