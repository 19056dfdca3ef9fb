-- What the commands do to their output: the file that `pack` makes of numbers, or the first cause for which there is
-- none, and which failure an error is.
use Rattle.hound_spec.specs.declared.error.Error.{Error}
use Rattle.hound_spec.specs.declared.error.Error.TheVariants.{IoError, OutOfMemory, TooLong, TooWide, UnfinishedSample, Unsupported}
use Rattle.hound_text.specs.declared.TextError.{TextError}
use Rattle.hound_text.specs.declared.TextError.TheVariants as text
use Rattle.hound_commands.specs.declared.error.CommandError.{CommandError}
use Rattle.hound_commands.specs.declared.error.CommandError.TheVariants.{BadNumber, InputOrOutput, Rejected}
use Rattle.std.specs.Prelude.{◌≡◌, ℕ, ℤ, ◌%◌, ◌≤◌, ⊤, List, [], ◌∷◌, length, Result, Ok, Err, ◌⊎◌, IfSome, Option, codes, ◌++◌, ◌*◌, ◌<◌, decimal, drop, None, Some}
use Rattle.std.specs.List.{concat, flat_map}
use Rattle.hound_sample.specs.{Rejection, too_wide, int_container, containers, ReadRejection, float_rejection, int_meaning, int_rejection, pattern, error_of_read}
use Rattle.hound_spec.specs.{greatest_u32, canonical, data_start, riff_size, IsWritable}
use Rattle.hound_writer.specs.{containers_in}
use Rattle.hound_spec.specs.declared.spec.WavSpecEx.{WavSpecEx}
use Rattle.std.specs.Borrow.{Bor}
use Rattle.std.specs.Str.Parse.{IsNumeral, digits_value}
use Rattle.hound_spec.specs.declared.spec.SampleFormat.TheVariants.{Int, Float}
use Rattle.hound_spec.specs.declared.spec.WavSpec.{WavSpec}
use Rattle.std.specs.Io.KnownBytes.{Appends}
use Rattle.hound_text.specs.{SaysNoNumbers, SaysNumbers, integer_line, pattern_line}
use Rattle.std.specs.Io.{StartsWith}
use Rattle.hound_walk.specs.declared.cause.Cause.{Cause}
use Rattle.hound_walk.specs.{Readable, Unreadable, Names}
use Rattle.hound_spec.specs.declared.spec.SampleFormat.{SampleFormat}

-- the output got a beginning of a text, and no other byte
abbrev pub GetsBeginning : Option (List ℕ) → Option (List ℕ) → List ℕ → Type 0
GetsBeginning old new text = (part : List ℕ) × StartsWith text part × Appends old new part

-- the output got a text but for its end, which is buffered
abbrev pub GetsBuffered : Option (List ℕ) → Option (List ℕ) → List ℕ → List ℕ → Type 0
GetsBuffered old new buffered text = (written : List ℕ) × (text ≡ written ++ buffered) × Appends old new written

-- What lines that were pushed or written leave: the output got a text but for its end, which is buffered; or at an
-- error a beginning of it, and nothing is buffered.
abbrev pub PushesOut : {T E : Type 0} → Result T E → Option (List ℕ) → Option (List ℕ) → List ℕ → List ℕ → Type 0
PushesOut (Ok x) old new buffered text = GetsBuffered old new buffered text
PushesOut (Err e) old new buffered text = GetsBeginning old new text × (buffered ≡ [])

-- the word of a format
abbrev pub format_word : SampleFormat → List ℕ
format_word Int = codes "int"
format_word Float = codes "float"

-- the line of a spec, with the number of samples
abbrev pub spec_line : WavSpec → ℕ → List ℕ
spec_line spec samples =
    codes "channels " ++ (decimal spec.channels ++ (codes " rate " ++ (decimal spec.sample_rate
    ++ (codes " bits " ++ (decimal spec.bits_per_sample ++ (codes " format "
    ++ (format_word spec.sample_format ++ (codes " samples " ++ (decimal samples ++ 10 ∷ [])))))))))

-- the line of a container of a format, with so many bytes and used bits
abbrev pub line_for : SampleFormat → ℕ → ℕ → List ℕ → List ℕ
line_for Int width bits container = integer_line (int_meaning width bits container)
line_for Float width bits container = pattern_line (pattern container)

-- the line of a container in a file of this spec
abbrev pub sample_line : WavSpecEx → List ℕ → List ℕ
sample_line s container = line_for s.spec.sample_format s.bytes_per_sample s.spec.bits_per_sample container

-- the lines of the first samples of data, so many, in order
abbrev pub sample_lines : WavSpecEx → ℕ → List ℕ → List ℕ
sample_lines s count bytes = flat_map (sample_line s) (containers s.bytes_per_sample count bytes)

-- why samples of a format, of so many bytes and used bits, aren't shown, if they aren't
abbrev pub rejection_for : SampleFormat → ℕ → ℕ → Option ReadRejection
rejection_for Int width bits = int_rejection 4 Int width bits
rejection_for Float width bits = float_rejection Float width bits

-- why the samples of a spec aren't shown, if they aren't
abbrev pub show_rejection : WavSpecEx → Option ReadRejection
show_rejection s = rejection_for s.spec.sample_format s.bytes_per_sample s.spec.bits_per_sample

-- The first samples of data, so many, are there, and of bytes and bits that are shown.
pub record AreShowable (s : WavSpecEx) (count : ℕ) (bytes : List ℕ) : Type 0 where
  pub there : count * s.bytes_per_sample ≤ length bytes
  pub shown : 0 < count → show_rejection s ≡ None

-- the output and the buffer, which held `first`, got the lines of so many samples of what is left
abbrev pub ShowsSamples : WavSpecEx → ℕ → Option (List ℕ) → Option (List ℕ) → Option (List ℕ) → List ℕ → List ℕ → Type 0
ShowsSamples s count left old new first buffered = IfSome left (λ bytes. AreShowable s count bytes
    × GetsBuffered old new buffered (first ++ sample_lines s count bytes))

-- no sample of the spec is shown, and this is the error for it
abbrev pub RejectsSamples : WavSpecEx → Error → Type 0
RejectsSamples s e = (rejection : ReadRejection) × (show_rejection s ≡ Some rejection) × (e ≡ error_of_read rejection)

-- What is written where the samples are not all shown, after the text `first`: at a fault, a beginning of the lines of
-- samples that are there; at any other error, no line of a sample.
abbrev pub IsTextUntil : WavSpecEx → ℕ → CommandError → List ℕ → List ℕ → List ℕ → Type 0
IsTextUntil s count BadNumber bytes first text = ⊥
IsTextUntil s count InputOrOutput bytes first text = (shown : ℕ) × (shown ≤ count)
    × AreShowable s shown bytes × StartsWith (first ++ sample_lines s shown bytes) text
IsTextUntil s count (Rejected e) bytes first text = (0 < count) × RejectsSamples s e × (text ≡ first)

-- the same of the output and the buffer, which held `first`
abbrev pub StopsSamples : WavSpecEx → ℕ → CommandError → Option (List ℕ) → Option (List ℕ)
    → Option (List ℕ) → List ℕ → List ℕ → Type 0
StopsSamples s count failure left old new first buffered = IfSome left (λ bytes. (text : List ℕ)
    × IsTextUntil s count failure bytes first text × GetsBuffered old new buffered text)

-- what was shown of so many samples, by the result
abbrev pub ReportsSamples : WavSpecEx → ℕ → Result (Unit {0}) CommandError → Option (List ℕ) → Option (List ℕ)
    → Option (List ℕ) → List ℕ → List ℕ → Type 0
ReportsSamples s count (Ok x) left old new first buffered = ShowsSamples s count left old new first buffered
ReportsSamples s count (Err failure) left old new first buffered =
    StopsSamples s count failure left old new first buffered

-- The bytes are a file that is shown whole, and this is the text.
pub record IsPrinted (bytes text : List ℕ) : Type 0 where
  pub s : WavSpecEx
  pub samples : ℕ
  pub start : ℕ
  pub readable : Readable bytes s samples start
  pub showable : AreShowable s samples (drop start bytes)
  pub text_is : text ≡ spec_line s.spec samples ++ sample_lines s samples (drop start bytes)

-- the output got the lines of the file that the input's bytes are, all of them, and no other byte
abbrev pub Shows : Option (List ℕ) → Option (List ℕ) → Option (List ℕ) → Type 0
Shows input old new = IfSome input (λ bytes. (text : List ℕ) × IsPrinted bytes text × Appends old new text)

-- why nothing is shown: the head of the file is rejected, or there was a fault
abbrev pub IsHeadFailure : List ℕ → CommandError → Type 0
IsHeadFailure bytes BadNumber = ⊥
IsHeadFailure bytes InputOrOutput = ⊤
IsHeadFailure bytes (Rejected e) = (cause : Cause) × Unreadable bytes cause × Names e cause

-- The bytes are a file that is not shown to its end, and this is the text until then.
pub record IsShownPart (bytes : List ℕ) (failure : CommandError) (text : List ℕ) : Type 0 where
  pub s : WavSpecEx
  pub samples : ℕ
  pub start : ℕ
  pub readable : Readable bytes s samples start
  pub stops : IsTextUntil s samples failure (drop start bytes) (spec_line s.spec samples) text

-- at a failure the output got nothing, or a part of the lines of the file that the input's bytes are
abbrev pub ShowsUntil : Option (List ℕ) → CommandError → Option (List ℕ) → Option (List ℕ) → Type 0
ShowsUntil input failure old new = IfSome input (λ bytes. (text : List ℕ)
    × ((IsHeadFailure bytes failure × (text ≡ [])) ⊎ IsShownPart bytes failure text)
    × Appends old new text)

-- the failure of an error of the library: an `IoError` is one of the input or the output
abbrev pub failure_of : Error → CommandError
failure_of (IoError fault) = InputOrOutput
failure_of error = Rejected error

-- the failure of a text that is no list of numbers: too long an input is one of the input
abbrev pub rejection_of : TextError → CommandError
rejection_of text.BadNumber = BadNumber
rejection_of text.InputOrOutput = InputOrOutput
rejection_of text.TooLong = InputOrOutput
rejection_of text.OutOfMemory = Rejected OutOfMemory

-- the containers of numbers, in their order, or why the first that has none has none
abbrev pub containers_of : WavSpecEx → List ℤ → Result (List (List ℕ)) Rejection
containers_of s numbers = containers_in int_container s numbers

-- the size fields of a file have room for these containers
abbrev pub FitsSizes : WavSpecEx → List (List ℕ) → Type 0
FitsSizes s containers = riff_size (data_start s) (length (concat containers)) ≤ greatest_u32

-- Numbers that can be packed, and the file that they make.
pub record IsPacked (s : WavSpecEx) (numbers : List ℤ) (file : List ℕ) : Type 0 where
  pub writable : IsWritable s
  pub containers : List (List ℕ)
  pub have : containers_of s numbers ≡ Ok containers
  pub room : FitsSizes s containers
  pub frames : length containers % s.spec.channels ≡ 0
  pub file_is : file ≡ canonical s containers

-- The numbers have containers, for which there is no room.
pub record IsTooLong (s : WavSpecEx) (numbers : List ℤ) : Type 0 where
  pub containers : List (List ℕ)
  pub have : containers_of s numbers ≡ Ok containers
  pub no_room : FitsSizes s containers → ⊥

-- The numbers have containers, with room for all, but are no whole frames.
pub record IsUnfinished (s : WavSpecEx) (numbers : List ℤ) : Type 0 where
  pub containers : List (List ℕ)
  pub have : containers_of s numbers ≡ Ok containers
  pub room : FitsSizes s containers
  pub frames : length containers % s.spec.channels ≡ 0 → ⊥

-- why numbers can't be packed in a spec that can be written: one is too wide; all have containers, but no room; or they
-- are no whole frames
abbrev pub CannotBePacked : WavSpecEx → List ℤ → Error → Type 0
CannotBePacked s numbers TooWide = containers_of s numbers ≡ Err too_wide
CannotBePacked s numbers TooLong = IsTooLong s numbers
CannotBePacked s numbers UnfinishedSample = IsUnfinished s numbers
CannotBePacked s numbers _ = ⊥

-- why numbers aren't packed: the spec comes first; or there is no memory
abbrev pub IsPackError : WavSpecEx → List ℤ → Error → Type 0
IsPackError s numbers Unsupported = IsWritable s → ⊥
IsPackError s numbers OutOfMemory = ⊤
IsPackError s numbers e = IsWritable s × CannotBePacked s numbers e

-- The same of a failure, where the numbers were read; a fault of the input or the output may come at any time.
abbrev pub IsPackFailure : WavSpecEx → List ℤ → CommandError → Type 0
IsPackFailure s numbers BadNumber = ⊥
IsPackFailure s numbers InputOrOutput = ⊤
IsPackFailure s numbers (Rejected e) = IsPackError s numbers e

-- the text of an input, where it is known, says these numbers
abbrev pub AreNumbersOf : Option (List ℕ) → List ℤ → Type 0
AreNumbersOf input numbers = IfSome input (λ text. SaysNumbers text numbers)

-- the output got the file of the numbers that the input's text says, and no other byte
abbrev pub Packs : WavSpecEx → Option (List ℕ) → Option (List ℕ) → Option (List ℕ) → Type 0
Packs s input old new =
    (numbers : List ℤ) × (file : List ℕ) × AreNumbersOf input numbers × IsPacked s numbers file
    × Appends old new file

-- why `pack` fails: the input's text says no numbers, its numbers can't be packed, or there is no memory
abbrev pub IsNotPacked : WavSpecEx → Option (List ℕ) → CommandError → Type 0
IsNotPacked s input BadNumber = IfSome input SaysNoNumbers
IsNotPacked s input InputOrOutput = ⊤
IsNotPacked s input (Rejected e) =
    (e ≡ OutOfMemory) ⊎ ((numbers : List ℤ) × AreNumbersOf input numbers × IsPackFailure s numbers (Rejected e))

module _ {O : Type 0} where
  -- what `pack` leaves at a failure: the output as it was, and the cause; or, at a fault while the file is written, a
  -- beginning of the file
  abbrev pub PacksUntil : (O → Option (List ℕ)) → WavSpecEx → Option (List ℕ) → CommandError → O → O → Type 0
  PacksUntil contents s input InputOrOutput old new = (new ≡ old)
      ⊎ ((numbers : List ℤ) × (file : List ℕ) × AreNumbersOf input numbers × IsPacked s numbers file
      × GetsBeginning (contents old) (contents new) file)
  PacksUntil contents s input failure old new = IsNotPacked s input failure × (new ≡ old)

-- These words are digits alone, within range, and say this spec.
pub record SaySpec (channels rate bits : List ℕ) (spec : WavSpec) : Type 0 where
  pub channels_are : IsNumeral 10 channels × (digits_value 10 channels ≡ spec.channels)
  pub rate_is : IsNumeral 10 rate × (digits_value 10 rate ≡ spec.sample_rate)
  pub bits_are : IsNumeral 10 bits × (digits_value 10 bits ≡ spec.bits_per_sample)
  pub within : (spec.channels ≤ 65535) × (spec.sample_rate ≤ 4294967295) × (spec.bits_per_sample ≤ 65535)
  pub format : spec.sample_format ≡ Int

-- The words of `pack`, with the spec that they say.
abbrev pub IsPackCommand : List (Bor (List ℕ)) → WavSpec → Type 0
IsPackCommand (word ∷ channels ∷ rate ∷ bits ∷ []) spec =
    (word.now ≡ codes "pack") × SaySpec channels.now rate.now bits.now spec
IsPackCommand _ spec = ⊥

-- The word of `show`.
abbrev pub IsShowCommand : List (Bor (List ℕ)) → Type 0
IsShowCommand (word ∷ []) = word.now ≡ codes "show"
IsShowCommand _ = ⊥

-- Words that `run` carries out.
abbrev pub IsCommand : List (Bor (List ℕ)) → Type 0
IsCommand words = IsShowCommand words ⊎ ((spec : WavSpec) × IsPackCommand words spec)
