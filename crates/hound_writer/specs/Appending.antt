-- Appending to an existing file.
use Rattle.std.specs.Prelude.{◌≡◌, ℕ, ◌/◌, ◌%◌, ◌==◌, ◌⊎◌, ⊤, not, nat_lt, if◌then◌else◌, List, [], Option, None, Some, Result, Ok, Err}
use Rattle.hound_spec.specs.declared.error.Error.{Error}
use Rattle.hound_spec.specs.declared.error.Error.TheVariants.{OutOfMemory, TooLong}
use Rattle.hound_spec.specs.declared.spec.WavSpecEx.{WavSpecEx}
use Rattle.hound_spec.specs.{greatest_u32, riff_size, is_pair}
use Rattle.hound_medium.specs.{MediumState, Stays, WhereTells, one_more}
use Rattle.hound_walk.specs.declared.cause.Cause.{Cause}
use Rattle.hound_walk.specs.declared.cause.Cause.TheVariants.{Format, Unsupported}
use Rattle.hound_walk.specs.declared.cause.Reason.TheVariants.{DataLength, FrameLength}
use Rattle.hound_walk.specs.{Head, IsRejection, IsSoundSpec, Rejected, Names}
use Rattle.hound_writer.specs.Accepting.{IsIoError}
use Rattle.hound_writer.specs.Writer.{Ghosts, WriterState, IsSound, IsWhole, IsCounted, data_length, data_end}

-- why a file isn't appended to: for a cause that its bytes decide, or since its RIFF size would not fit 32 bits
pub data AppendFault : Type 0 where
  by_bytes : Cause → AppendFault
  too_long : AppendFault

-- The first check that a head fails: whole samples, samples that are written, whole frames, a RIFF size that fits.
unfoldable pub head_fault : WavSpecEx → ℕ → ℕ → Option AppendFault
head_fault s len h =
    if not (len % s.bytes_per_sample == 0) then Some (by_bytes (Format DataLength))
    else if not (is_pair s.spec.sample_format s.spec.bits_per_sample s.bytes_per_sample)
    then Some (by_bytes Unsupported)
    else if not (len / s.bytes_per_sample % s.spec.channels == 0) then Some
    (by_bytes (Format FrameLength))
    else if nat_lt greatest_u32 (riff_size h len) then Some too_long
    else None

-- the bytes have this fault: they have no head for this cause, or their head fails a check
abbrev pub IsAppendFault : List ℕ → AppendFault → Type 0
IsAppendFault bytes fault =
    ((cause : Cause) × (fault ≡ by_bytes cause) × Rejected bytes cause)
    ⊎ ((s : WavSpecEx) × (len : ℕ) × (h : ℕ) × Head bytes s len h × (head_fault s len h ≡ Some fault))

-- the spec, the data's length and the place of the data, if the bytes can be appended to; or the fault
pub data AppendAnswer : Type 0 where
  appendable : WavSpecEx → ℕ → ℕ → AppendAnswer
  faulty : AppendFault → AppendAnswer

-- the bytes have this head, which fails no check, or this fault
abbrev pub AnswersAppend : List ℕ → AppendAnswer → Type 0
AnswersAppend bytes (appendable s len h) = Head bytes s len h × (head_fault s len h ≡ None)
AnswersAppend bytes (faulty fault) = IsAppendFault bytes fault

-- the bytes can be appended to, with exactly one head, or not, for exactly one fault
abbrev pub HasOneAppendAnswer : List ℕ → Type 0
HasOneAppendAnswer bytes =
    (a : AppendAnswer) × AnswersAppend bytes a
    × ((b : AppendAnswer) → AnswersAppend bytes b → b ≡ a)

-- the error that callers get
abbrev pub NamesFault : Error → AppendFault → Type 0
NamesFault e (by_bytes cause) = Names e cause
NamesFault e too_long = e ≡ TooLong

-- an error of appending to the file in a medium, or of repairing it, over every medium
abbrev pub IsMediumError : Error → Type 0
IsMediumError e = (e ≡ TooLong) ⊎ IsRejection e (λ _. ⊤)

-- the same of a file on disk, for whose buffer there may be no memory
abbrev pub IsFileError : Error → Type 0
IsFileError e = (e ≡ OutOfMemory) ⊎ IsMediumError e

-- nothing was written, and only the place and the faults have changed
pub record PutsNothing (old new : MediumState) : Type 0 where
  pub stays : Stays old new
  pub flushed : new.flushed ≡ old.flushed

-- A writer that appends to a file, over a medium whose bytes are known: the file's head is there and fails no check,
-- the data chunk is what was accepted, and the next sample goes to its end.
pub record FollowsData {W : Type 0} (old : MediumState) (state : W → MediumState) (w : WriterState W) : Type 0 where
  pub head : Head old.contents w.spec_ex (data_length w) w.data_start
  pub check : head_fault w.spec_ex (data_length w) w.data_start ≡ None
  pub puts : PutsNothing old (state w.medium)
  pub place : (state w.medium).place ≡ data_end w
  pub faults : (state w.medium).faults ≡ old.faults
  pub counts : IsWhole state w → IsCounted state w

-- A writer that appends to a file.
pub record Appends {W : Type 0} (kind : Ghosts W) (old : MediumState) (w : WriterState W) : Type 0 where
  pub sound : IsSound w
  pub sound_spec : IsSoundSpec w.spec_ex
  pub none_buffered : w.buffered ≡ []
  pub batch_memory : w.batch_memory ≡ []
  pub file : WhereTells kind.tells (FollowsData old kind.state w)

-- A file that isn't appended to, for a fault that its bytes have, or since the medium failed.
pub record IsNotAppended (old new : MediumState) (e : Error) : Type 0 where
  pub puts : PutsNothing old new
  pub why : ((fault : AppendFault) × IsAppendFault old.contents fault × NamesFault e fault × (new.faults ≡ old.faults))
      ⊎ (IsIoError e × (new.faults ≡ one_more old.faults))

-- the result of a check: Ok if a head has no fault, else the error of its fault
abbrev pub FailsCheck : {T : Type 0} → Result T Error → Option AppendFault → Type 0
FailsCheck (Ok x) fault = fault ≡ None
FailsCheck (Err e) None = ⊥
FailsCheck (Err e) (Some fault) = NamesFault e fault
