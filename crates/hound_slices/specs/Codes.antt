-- The numbers that C gets.
use Rattle.std.specs.Prelude.{◌≡◌, ℕ, ℤ, pos, negsuc, Result, Ok, Err, MatchResult}
use Rattle.std.specs.IoError.{error_kind}
use Rattle.std.specs.declared.io.ErrorKind.{ErrorKind}
use Rattle.std.specs.declared.io.ErrorKind.TheVariants as kinds
use Rattle.hound_spec.specs.declared.error.Error.{Error}
use Rattle.hound_spec.specs.declared.error.Error.TheVariants as errors
use Rattle.hound_walk.specs.{ReportsError}
use Rattle.hound_walk.specs.declared.cause.HeadError.TheVariants.{Rejected}
use Rattle.hound_walk.specs.declared.cause.Cause.TheVariants.{Ended, Format, Unsupported}
use Rattle.hound_walk.specs.declared.cause.Reason.{Reason}
use Rattle.hound_walk.specs.declared.cause.Reason.TheVariants.{NoRiffTag, NoWaveTag, NoDataChunk, NoFmtChunk, FmtSize, UnexpectedFmtSize, ZeroChannels, BitsExceedWidth, Inconsistent, BitsNotWholeBytes, ZeroBits, BitsNot8Or16, ExSize, BitsNot32, ExtensibleSize, DataLength, FrameLength}
use Rattle.hound_repair.specs.declared.stages.Unrepairable.{Unrepairable}
use Rattle.hound_repair.specs.declared.stages.Unrepairable.TheVariants as reasons
use Rattle.hound_writer.specs.declared.recorder.RecorderError.{RecorderError}
use Rattle.hound_writer.specs.declared.recorder.RecorderError.TheVariants as recorder_errors
use Rattle.hound_slices.specs.declared.error.CallError.{CallError}
use Rattle.hound_slices.specs.declared.error.CallError.TheVariants.{Head, OtherFormat, TooWide, NotWritable, Truncated, TooLong, UnfinishedFrame, NoRoom, NotPerformed, Recorder}

abbrev pub reason_code : Reason → ℤ
reason_code NoRiffTag = negsuc 9
reason_code NoWaveTag = negsuc 10
reason_code NoDataChunk = negsuc 11
reason_code NoFmtChunk = negsuc 12
reason_code FmtSize = negsuc 13
reason_code UnexpectedFmtSize = negsuc 14
reason_code ZeroChannels = negsuc 15
reason_code BitsExceedWidth = negsuc 16
reason_code Inconsistent = negsuc 17
reason_code BitsNotWholeBytes = negsuc 18
reason_code ZeroBits = negsuc 19
reason_code BitsNot8Or16 = negsuc 20
reason_code ExSize = negsuc 21
reason_code BitsNot32 = negsuc 22
reason_code ExtensibleSize = negsuc 23
reason_code DataLength = negsuc 24
reason_code FrameLength = negsuc 25

abbrev pub error_code : CallError → ℤ
error_code (Head Ended) = negsuc 0
error_code (Head Unsupported) = negsuc 1
error_code (Head (Format reason)) = reason_code reason
error_code OtherFormat = negsuc 2
error_code TooWide = negsuc 3
error_code NotWritable = negsuc 4
error_code Truncated = negsuc 5
error_code TooLong = negsuc 6
error_code UnfinishedFrame = negsuc 7
error_code NoRoom = negsuc 8
error_code NotPerformed = negsuc 30
error_code (Recorder recorder_errors.NotWritable) = negsuc 4
error_code (Recorder recorder_errors.TooLong) = negsuc 6
error_code (Recorder recorder_errors.UnfinishedFrame) = negsuc 7
error_code (Recorder recorder_errors.Truncated) = negsuc 5
error_code (Recorder recorder_errors.NeedsCheckpoint) = negsuc 26
error_code (Recorder recorder_errors.SyncFailed) = negsuc 27
error_code (Recorder recorder_errors.NeedsMend) = negsuc 28
error_code (Recorder recorder_errors.NeedsOverwrite) = negsuc 29

-- the error of bytes that are rejected by a look at them
abbrev pub error_of_rejection : Unrepairable → CallError
error_of_rejection (reasons.Head cause) = Head cause
error_of_rejection reasons.Unsupported = NotWritable
error_of_rejection reasons.TooLong = TooLong

-- the count, or the number of the error
abbrev pub code_for : Result ℕ CallError → ℤ
code_for (Ok n) = pos n
code_for (Err error) = error_code error

-- what C gets is the number of an outcome that P holds for
abbrev pub Returns : ℤ → (Result ℕ CallError → Type 0) → Type 0
Returns number P = (outcome : Result ℕ CallError) × (number ≡ code_for outcome) × P outcome

-- what C gets of a recorder's call is a number of its result, or that of its error
abbrev pub Records : {T : Type 0} → ℤ → (T → ℕ) → (Result T RecorderError → Type 0) → Type 0
Records {T} number value P = (result : Result T RecorderError) × P result
    × MatchResult result (λ x. number ≡ pos (value x)) (λ error. number ≡ error_code (Recorder error))

-- an `IoError` of this kind
abbrev pub IsOfKind : ErrorKind → Error → Type 0
IsOfKind kind (errors.IoError fault) = error_kind fault ≡ kind
IsOfKind kind _ = ⊥

-- the error of a reader or a writer that says the same as that of a call
abbrev pub SaysSame : CallError → Error → Type 0
SaysSame (Head cause) error = ReportsError (Rejected cause) error
SaysSame OtherFormat error = error ≡ errors.InvalidSampleFormat
SaysSame TooWide error = error ≡ errors.TooWide
SaysSame NotWritable error = error ≡ errors.Unsupported
SaysSame Truncated error = IsOfKind kinds.UnexpectedEof error
SaysSame TooLong error = error ≡ errors.TooLong
SaysSame UnfinishedFrame error = error ≡ errors.UnfinishedSample
SaysSame NoRoom error = IsOfKind kinds.WriteZero error
SaysSame NotPerformed error = IsOfKind kinds.Other error
SaysSame (Recorder recorder_errors.NotWritable) error = error ≡ errors.Unsupported
SaysSame (Recorder recorder_errors.TooLong) error = error ≡ errors.TooLong
SaysSame (Recorder recorder_errors.UnfinishedFrame) error = error ≡ errors.UnfinishedSample
SaysSame (Recorder recorder_errors.Truncated) error = IsOfKind kinds.UnexpectedEof error
SaysSame (Recorder recorder_errors.NeedsMend) error = IsOfKind kinds.InvalidData error
SaysSame (Recorder recorder_errors.NeedsOverwrite) error = IsOfKind kinds.InvalidData error
SaysSame (Recorder recorder_errors.NeedsCheckpoint) error = IsOfKind kinds.Other error
SaysSame (Recorder recorder_errors.SyncFailed) error = IsOfKind kinds.Other error
