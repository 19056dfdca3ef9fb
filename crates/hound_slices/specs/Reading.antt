-- What reading does.
use Rattle.std.specs.Prelude.{◌≡◌, ℕ, ◌+◌, ◌-◌, ◌*◌, ◌/◌, ◌<◌, ◌≤◌, min, List, length, take, drop, map, Option, None, Some, Result, Ok, Err, ◌^◌, ◌++◌, replicate}
use Rattle.hound_spec.specs.declared.spec.SampleFormat.{SampleFormat}
use Rattle.hound_spec.specs.declared.spec.WavSpecEx.{WavSpecEx}
use Rattle.hound_sample.specs.{containers, ReadRejection, other_format, misfit, too_wide, unsupported, Rejection}
use Rattle.hound_reader.specs.{rejection_at, meaning_at}
use Rattle.hound_walk.specs.{Readable, Unreadable}
use Rattle.hound_slices.specs.declared.error.CallError.{CallError}
use Rattle.hound_slices.specs.declared.error.CallError.TheVariants.{Head, OtherFormat, TooWide, NotWritable, Truncated}
use Rattle.hound_number.specs.{bytes_of}
use Rattle.hound_spec.specs.declared.error.Error.{Error}

-- the error of a type that doesn't read samples
abbrev pub rejection_error : ReadRejection → CallError
rejection_error other_format = OtherFormat
rejection_error (misfit too_wide) = TooWide
rejection_error (misfit unsupported) = NotWritable

abbrev pub read_check : Option ReadRejection → Result (Unit {0}) CallError
read_check None = Ok tt
read_check (Some rejection) = Err (rejection_error rejection)

-- how many samples there are in the bytes, of those that the header counts
abbrev pub stored : List ℕ → WavSpecEx → ℕ → ℕ → ℕ
stored bytes s samples start = min samples ((length bytes - start) / s.bytes_per_sample)

-- Reading from a sample on gave n samples: as many as there are and fit. They are what the containers in the bytes
-- mean, and the rest of the caller's memory stays.
pub record ReadsSamples {A : Type 0} (rejection : SampleFormat → ℕ → ℕ → Option ReadRejection)
    (meaning : SampleFormat → ℕ → ℕ → List ℕ → A) (bytes : List ℕ) (first n : ℕ)
    (old new : List A) : Type 0 where
  pub spec_ex : WavSpecEx
  pub samples : ℕ
  pub start : ℕ
  pub readable : Readable bytes spec_ex samples start
  pub taken : rejection_at rejection spec_ex ≡ None
  pub count : n ≡ min (length old) (stored bytes spec_ex samples start - first)
  pub end : n ≡ 0 → 0 < length old → samples ≤ first
  pub front : take n new ≡ map (meaning_at meaning spec_ex)
      (containers spec_ex.bytes_per_sample n (drop (start + first * spec_ex.bytes_per_sample) bytes))
  pub rest : drop n new ≡ drop n old

-- the file is read, but not as this type
abbrev pub IsOtherType : (SampleFormat → ℕ → ℕ → Option ReadRejection) → List ℕ → ReadRejection → Type 0
IsOtherType rejection bytes why = (s : WavSpecEx) × (samples : ℕ) × (start : ℕ)
    × Readable bytes s samples start × (rejection_at rejection s ≡ Some why)

-- the header counts the sample, and it isn't in the bytes
abbrev pub IsCutBefore : List ℕ → ℕ → Type 0
IsCutBefore bytes first = (s : WavSpecEx) × (samples : ℕ) × (start : ℕ)
    × Readable bytes s samples start × (first < samples) × (stored bytes s samples start ≤ first)

-- why samples from one on aren't read into so many places
abbrev pub IsReadError : (SampleFormat → ℕ → ℕ → Option ReadRejection) → List ℕ → ℕ → ℕ → CallError → Type 0
IsReadError rejection bytes first room (Head cause) = Unreadable bytes cause
IsReadError rejection bytes first room OtherFormat = IsOtherType rejection bytes other_format
IsReadError rejection bytes first room TooWide = IsOtherType rejection bytes (misfit too_wide)
IsReadError rejection bytes first room NotWritable = IsOtherType rejection bytes (misfit unsupported)
IsReadError rejection bytes first room Truncated = (0 < room) × IsCutBefore bytes first
IsReadError rejection bytes first room _ = ⊥

-- what reading does, by its outcome
abbrev pub ReadsInto : {A : Type 0} → (SampleFormat → ℕ → ℕ → Option ReadRejection)
    → (SampleFormat → ℕ → ℕ → List ℕ → A) → List ℕ → ℕ → List A → List A → Result ℕ CallError → Type 0
ReadsInto rejection meaning bytes first old new (Ok n) = ReadsSamples rejection meaning bytes first n old new
ReadsInto rejection meaning bytes first old new (Err error) = (new ≡ old)
    × IsReadError rejection bytes first (length old) error

-- how many whole containers these bytes have
abbrev pub whole : List ℕ → WavSpecEx → ℕ
whole bytes s = length bytes / s.bytes_per_sample

-- Decoding bytes of a spec gave n samples: as many as there are and fit.
pub record DecodesSamples {A : Type 0} (rejection : SampleFormat → ℕ → ℕ → Option ReadRejection)
    (meaning : SampleFormat → ℕ → ℕ → List ℕ → A) (s : WavSpecEx) (bytes : List ℕ) (n : ℕ)
    (old new : List A) : Type 0 where
  pub taken : rejection_at rejection s ≡ None
  pub count : n ≡ min (length old) (whole bytes s)
  pub front : take n new ≡ map (meaning_at meaning s) (containers s.bytes_per_sample n bytes)
  pub rest : drop n new ≡ drop n old

-- what decoding does, by its outcome
abbrev pub Decodes : {A : Type 0} → (SampleFormat → ℕ → ℕ → Option ReadRejection)
    → (SampleFormat → ℕ → ℕ → List ℕ → A) → WavSpecEx → List ℕ → List A → List A
    → Result ℕ CallError → Type 0
Decodes rejection meaning s bytes old new (Ok n) = DecodesSamples rejection meaning s bytes n old new
Decodes rejection meaning s bytes old new (Err error) = (new ≡ old)
    × (why : ReadRejection) × (rejection_at rejection s ≡ Some why) × (error ≡ rejection_error why)

-- the number of four bytes, or that there are none
abbrev pub IsNumberOf : Result (List ℕ) Error → Result ℕ CallError → Type 0
IsNumberOf (Ok bytes) outcome = (n : ℕ) × (outcome ≡ Ok n) × (n < 2 ^ 32) × (bytes_of 4 n ≡ bytes)
IsNumberOf (Err error) outcome = outcome ≡ Err TooWide

-- the number whose low bytes are a container, and whose others are zero, or that the value needs more bits
abbrev pub MakesContainer : Result (List ℕ) Rejection → Result ℕ CallError → Type 0
MakesContainer (Ok container) outcome = (n : ℕ) × (outcome ≡ Ok n) × (n < 2 ^ 32)
    × (bytes_of 4 n ≡ container ++ replicate (4 - length container) 0)
MakesContainer (Err too_wide) outcome = outcome ≡ Err TooWide
MakesContainer (Err unsupported) outcome = ⊥
