-- The errors that callers get.
use Rattle.std.specs.Prelude.{◌≡◌, ℕ, List, ⊤, codes, Result, Ok, Err}
use Rattle.std.specs.IoError.{error_kind}
use Rattle.std.specs.declared.io.ErrorKind.TheVariants.{Other}
use Rattle.hound_walk.specs.declared.cause.Cause.{Cause}
use Rattle.hound_walk.specs.declared.cause.Cause.TheVariants.{Ended, Format, Unsupported}
use Rattle.hound_walk.specs.declared.cause.HeadError.{HeadError}
use Rattle.hound_walk.specs.declared.cause.HeadError.TheVariants.{Failed, Rejected}
use Rattle.hound_spec.specs.declared.error.Error.{Error}
use Rattle.hound_spec.specs.declared.error.Error.TheVariants as errors
use Rattle.hound_walk.specs.declared.cause.Reason.{Reason}
use Rattle.hound_walk.specs.declared.cause.Reason.TheVariants.{NoRiffTag, NoWaveTag, NoDataChunk, NoFmtChunk, FmtSize, UnexpectedFmtSize, ZeroChannels, BitsExceedWidth, Inconsistent, BitsNotWholeBytes, ZeroBits, BitsNot8Or16, ExSize, BitsNot32, ExtensibleSize, DataLength, FrameLength}

-- the words of a `FormatError`
abbrev pub reason_text : Reason → List ℕ
reason_text NoRiffTag = codes "no RIFF tag found"
reason_text NoWaveTag = codes "no WAVE tag found"
reason_text NoDataChunk = codes "missing data chunk"
reason_text NoFmtChunk = codes "missing fmt chunk"
reason_text FmtSize = codes "invalid fmt chunk size"
reason_text UnexpectedFmtSize = codes "unexpected fmt chunk size"
reason_text ZeroChannels = codes "file contains zero channels"
reason_text BitsExceedWidth = codes "sample bits exceeds size of sample"
reason_text Inconsistent = codes "inconsistent fmt chunk"
reason_text BitsNotWholeBytes = codes "bits per sample is not a multiple of 8"
reason_text ZeroBits = codes "bits per sample is 0"
reason_text BitsNot8Or16 = codes "bits per sample is not 8 or 16"
reason_text ExSize = codes "unexpected WAVEFORMATEX size"
reason_text BitsNot32 = codes "bits per sample is not 32"
reason_text ExtensibleSize = codes "unexpected WAVEFORMATEXTENSIBLE size"
reason_text DataLength = codes "data chunk length is not a multiple of sample size"
reason_text FrameLength = codes "invalid data chunk length"

-- the error of a cause: a `FormatError` with its words, the variant `Unsupported`, or for an early end an `IoError` of
-- kind `Other`
abbrev pub Names : Error → Cause → Type 0
Names (errors.IoError e) cause = (cause ≡ Ended) × (error_kind e ≡ Other)
Names (errors.FormatError s) cause = (reason : Reason) × (cause ≡ Format reason) × (s.now ≡ reason_text reason)
Names errors.Unsupported cause = cause ≡ Unsupported
Names _ cause = ⊥

-- the error that callers get: that of a failed read, or that of the cause
abbrev pub ReportsError : HeadError → Error → Type 0
ReportsError (Failed e) modelled = modelled ≡ errors.IoError e
ReportsError (Rejected cause) modelled = Names modelled cause

-- an `IoError`, or the error of a cause that P holds for
abbrev pub IsRejection : Error → (Cause → Type 0) → Type 0
IsRejection (errors.IoError e) P = ⊤
IsRejection (errors.FormatError s) P = (reason : Reason) × P (Format reason) × (s.now ≡ reason_text reason)
IsRejection errors.Unsupported P = P Unsupported
IsRejection _ P = ⊥

-- Ok with P, or an `IoError`
abbrev pub OpensAs : {A : Type 0} → Result A Error → (A → Type 0) → Type 0
OpensAs (Ok r) P = P r
OpensAs (Err (errors.IoError e)) P = ⊤
OpensAs (Err _) P = ⊥

-- an `IoError`, or the error of this cause
abbrev pub FailsAs : Error → Cause → Type 0
FailsAs (errors.IoError e) cause = ⊤
FailsAs e cause = Names e cause
