-- Samples of a file in memory, and why no more of them come.
use Rattle.std.specs.Prelude.{◌≡◌, ℕ, ◌+◌, ◌*◌, ◌<◌, ◌≤◌, List, length, map, Option, Some, ◌⊎◌, take, Result, OnOk, IfErr}
use Rattle.std.specs.IoError.{error_kind}
use Rattle.std.specs.declared.io.ErrorKind.TheVariants.{Other}
use Rattle.hound_sample.specs.{ReadRejection, containers, error_of_read, reason_of}
use Rattle.hound_sample.specs.declared.item.SampleError.{SampleError}
use Rattle.hound_sample.specs.declared.item.SampleError.TheVariants.{Failed}
use Rattle.hound_spec.specs.declared.error.Error.{Error}
use Rattle.hound_spec.specs.declared.error.Error.TheVariants.{IoError}
use Rattle.hound_spec.specs.declared.spec.SampleFormat.{SampleFormat}
use Rattle.hound_spec.specs.declared.spec.WavSpecEx.{WavSpecEx}
use Rattle.hound_reader.specs.Reader.{meaning_at, rejection_at}
use Rattle.std.specs.declared.io.Error.{Error as IoFault}
use Rattle.hound_medium.specs.{MediumState, Stays, one_more}
use Rattle.hound_walk.specs.{unread}
use Rattle.hound_reader.specs.Seeking.{ReadsInPlace}

-- these are the first samples of bytes: the meanings of as many containers, each of which is whole
abbrev pub AreFirstSamples : {A : Type 0} → (SampleFormat → ℕ → ℕ → List ℕ → A) → WavSpecEx → List ℕ → List A → Type 0
AreFirstSamples meaning s bytes values = (length values * s.bytes_per_sample ≤ length bytes)
    × (values ≡ map (meaning_at meaning s) (containers s.bytes_per_sample (length values) bytes))

-- the bytes end before the container after this many does
abbrev pub IsCutAfter : WavSpecEx → ℕ → List ℕ → Type 0
IsCutAfter s count bytes = length bytes < (count + 1) * s.bytes_per_sample

-- why no more than this many samples came of bytes: an `IoError` of kind `Other` is that they end early, and any other
-- error is that of the type
abbrev pub IsCauseOf : (SampleFormat → ℕ → ℕ → Option ReadRejection) → WavSpecEx → ℕ → List ℕ → Error → Type 0
IsCauseOf rejection s count bytes (IoError e) = IsCutAfter s count bytes × (error_kind e ≡ Other)
IsCauseOf rejection s count bytes e =
    (why : ReadRejection) × (rejection_at rejection s ≡ Some why) × (e ≡ error_of_read why)

-- the same by its reason
abbrev pub IsReasonOf : (SampleFormat → ℕ → ℕ → Option ReadRejection) → WavSpecEx → ℕ → List ℕ → SampleError → Type 0
IsReasonOf rejection s count bytes Failed = IsCutAfter s count bytes
IsReasonOf rejection s count bytes reason = (why : ReadRejection) × (rejection_at rejection s ≡ Some why)
    × (reason ≡ reason_of (error_of_read why))

-- reads of a source passed this many of its bytes, and changed nothing else but its count of faults
pub record PassesBytes (n : ℕ) (old new : MediumState) : Type 0 where
  pub stays : Stays old new
  pub flushed : new.flushed ≡ old.flushed
  pub within : n ≤ length (unread old)
  pub place : new.place ≡ old.place + n

-- fewer bytes came than were requested: the source ended, and the fault is of kind `Other`; or a read failed, which the
-- source has counted
abbrev pub EndsEarly : ℕ → IoFault → MediumState → MediumState → Type 0
EndsEarly n fault old new =
    ((n ≡ length (unread old)) × (error_kind fault ≡ Other) × (new.faults ≡ old.faults))
    ⊎ (new.faults ≡ one_more old.faults)

-- bytes that were requested of a source came in order: all of them without a fault, or fewer
pub record GetsAll (bytes : List ℕ) (requested : ℕ) (fault : IoFault) (old new : MediumState) : Type 0 where
  pub passes : PassesBytes (length bytes) old new
  pub in_order : bytes ≡ take (length bytes) (unread old)
  pub ends : ((length bytes ≡ requested) × (new.faults ≡ old.faults))
      ⊎ ((length bytes < requested) × EndsEarly (length bytes) fault old new)

-- why no more than this many samples came of a source: for a cause that its bytes have, or since a read failed, which
-- it has counted
abbrev pub IsGetError : (SampleFormat → ℕ → ℕ → Option ReadRejection) → WavSpecEx → ℕ → MediumState → MediumState
    → Error → Type 0
IsGetError rejection s count old new e =
    (IsCauseOf rejection s count (unread old) e × (new.faults ≡ old.faults))
    ⊎ ((fault : IoFault) × (e ≡ IoError fault) × (new.faults ≡ one_more old.faults))

-- A block of a source: its samples are the first ones of the bytes from the place on. Only the place has moved, by what
-- was taken, and a fault is counted where an error is that of a read.
pub record GetsBlock {A T : Type 0} (rejection : SampleFormat → ℕ → ℕ → Option ReadRejection)
    (meaning : SampleFormat → ℕ → ℕ → List ℕ → A) (s : WavSpecEx) (values : List A) (result : Result T Error)
    (old new : MediumState) : Type 0 where
  pub stays : Stays old new
  pub flushed : new.flushed ≡ old.flushed
  pub in_place : ReadsInPlace old new
  pub samples : AreFirstSamples meaning s (unread old) values
  pub ok : OnOk result (new.faults ≡ old.faults)
  pub err : IfErr result (IsGetError rejection s (length values) old new)
