-- What a container means, which types read it (WAVEFORMATEX, "wBitsPerSample": 8 bits are unsigned), and what `read`,
-- `read_item` and `read_many` return.
use Rattle.std.specs.Prelude.{ℕ, ℤ, pos, ◌/◌, ◌-ℤ◌, ◌==◌, nat_lt, if◌then◌else◌, List, take, Option, None, Some, ◌≡◌, ◌<◌, ◌≤◌, length, drop, Result, Ok, Err, [], ◌∷◌, ◌++◌, map, OnOk, OnErr}
use Rattle.hound_number.specs.{number, signed_number, signed_bytes_of, WhereKnown}
use Rattle.hound_spec.specs.{is_pair}
use Rattle.hound_spec.specs.declared.spec.SampleFormat.{SampleFormat}
use Rattle.hound_spec.specs.declared.spec.SampleFormat.TheVariants.{Int, Float}
use Rattle.hound_spec.specs.declared.error.Error.{Error}
use Rattle.hound_spec.specs.declared.error.Error.TheVariants.{IoError, TooLong, TooWide, Unsupported, InvalidSampleFormat}
use Rattle.std.specs.declared.io.Error.{Error as IoFault}
use Rattle.hound_sample.specs.Container.{Rejection, too_wide, unsupported, error_of}
use Rattle.hound_sample.specs.declared.item.SampleError.{SampleError}
use Rattle.hound_sample.specs.declared.item.SampleError.TheVariants as items

-- why a type doesn't read samples: they are of another format, too wide for it, or have bits and bytes that it doesn't
-- read
pub data ReadRejection : Type 0 where
  other_format : ReadRejection
  misfit : Rejection → ReadRejection

-- why an integer type of so many bytes doesn't read samples of a format, a width and used bits, if it doesn't
abbrev pub int_rejection : ℕ → SampleFormat → ℕ → ℕ → Option ReadRejection
int_rejection most Float width bits = Some other_format
int_rejection most Int width bits =
    if nat_lt most width then Some (misfit too_wide)
    else if is_pair Int bits width then None
    else Some (misfit unsupported)

-- the integer of a container: one byte counts from -128; more are signed, and those after the used bits mean nothing
abbrev pub int_meaning : ℕ → ℕ → List ℕ → ℤ
int_meaning width bits container =
    if width == 1 then (pos (number container) -ℤ pos 128)
    else signed_number (take (bits / 8) container)

-- the lowest sixteen bits as a signed number: the two low bytes of the four
abbrev pub low_i16 : ℤ → ℤ
low_i16 v = signed_number (take 2 (signed_bytes_of 4 v))

-- why a pattern of 32 bits isn't read from samples of a format, a width and used bits, if it isn't
abbrev pub float_rejection : SampleFormat → ℕ → ℕ → Option ReadRejection
float_rejection Int width bits = Some other_format
float_rejection Float width bits =
    if nat_lt 4 width then Some (misfit too_wide)
    else if is_pair Float bits width then None
    else Some (misfit unsupported)

-- the pattern of a container of four bytes
abbrev pub pattern : List ℕ → ℕ
pattern container = number container

-- the error for why a type doesn't read samples
abbrev pub error_of_read : ReadRejection → Error
error_of_read other_format = InvalidSampleFormat
error_of_read (misfit rejection) = error_of rejection

-- Ok if a type reads samples, else the error
abbrev pub read_error : Option ReadRejection → Result (Unit {0}) Error
read_error None = Ok tt
read_error (Some rejection) = Err (error_of_read rejection)

-- a whole container was taken, and this is its value
abbrev pub TakesContainer : {A : Type 0} → (List ℕ → A) → ℕ → A → List ℕ → List ℕ → Type 0
TakesContainer meaning width value old new = (width ≤ length old)
    × (value ≡ meaning (take width old)) × (new ≡ drop width old)

-- less than a container was taken
abbrev pub TakesTooFew : ℕ → List ℕ → List ℕ → Type 0
TakesTooFew width old new = (n : ℕ) × (n < width) × (n ≤ length old) × (new ≡ drop n old)

-- what a type that reads the samples returns: the value of a container, or an `IoError` with less than one taken
abbrev pub ReadsContainer : {A : Type 0} → (List ℕ → A) → ℕ → Option (List ℕ) → Option (List ℕ)
    → Result A Error → Type 0
ReadsContainer meaning width old new (Ok value) = WhereKnown old new (TakesContainer meaning width value)
ReadsContainer meaning width old new (Err (IoError e)) = WhereKnown old new (TakesTooFew width)
ReadsContainer meaning width old new (Err _) = ⊥

-- `read`: the error if the type doesn't read the samples, with the bytes as they were; else the container is read
abbrev pub Reads : {A : Type 0} → Option ReadRejection → (List ℕ → A) → ℕ → Option (List ℕ)
    → Option (List ℕ) → Result A Error → Type 0
Reads (Some rejection) meaning width old new result = (result ≡ Err (error_of_read rejection)) × (new ≡ old)
Reads None meaning width old new result = ReadsContainer meaning width old new result

-- the reason that an error of a sample gives
abbrev pub reason_of : Error → SampleError
reason_of (IoError fault) = items.Failed
reason_of InvalidSampleFormat = items.OtherFormat
reason_of TooWide = items.TooWide
reason_of _ = items.Unsupported

-- Ok if all values have containers, or the reason of the first that has none
abbrev pub first_reason : {T : Type 0} → Result T Rejection → Result (Unit {0}) SampleError
first_reason (Ok list) = Ok tt
first_reason (Err rejection) = Err (reason_of (error_of rejection))

-- the error of that reason, with this saved fault
abbrev pub error_of_sample : SampleError → IoFault → Error
error_of_sample items.Failed fault = IoError fault
error_of_sample items.OtherFormat fault = InvalidSampleFormat
error_of_sample items.TooWide fault = TooWide
error_of_sample items.Unsupported fault = Unsupported
error_of_sample items.TooLong fault = TooLong

-- what `read` returns, with this fault
abbrev pub answer_of : {A : Type 0} → Result A SampleError → IoFault → Result A Error
answer_of (Ok value) fault = Ok value
answer_of (Err no_sample) fault = Err (error_of_sample no_sample fault)

-- `read_item`: a sample is read as `read` does it, whichever the fault is
abbrev pub ReadsItem : {A : Type 0} → Option ReadRejection → (List ℕ → A) → ℕ → Option (List ℕ)
    → Option (List ℕ) → Result A SampleError → Type 0
ReadsItem rejection meaning width old new answer = (fault : IoFault)
    → Reads rejection meaning width old new (answer_of answer fault)

-- what was returned for each sample: these values, and then the error, if one ended it
abbrev pub items_of : {A T E : Type 0} → List A → Result T E → List (Result A E)
items_of values (Ok done) = map Ok values
items_of values (Err error) = map Ok values ++ (Err error ∷ [])

-- samples were read one after the other: this is what `read` returned for each
abbrev pub ReadsEach : {A : Type 0} → Option ReadRejection → (List ℕ → A) → ℕ → List (Result A Error)
    → Option (List ℕ) → Option (List ℕ) → Type 0
ReadsEach rejection meaning width [] old new = new ≡ old
ReadsEach rejection meaning width (item ∷ items) old new = (mid : Option (List ℕ))
    × Reads rejection meaning width old mid item × ReadsEach rejection meaning width items mid new

-- This many samples were read into the front of a slice: all that it has, unless an error came. The rest of the slice
-- is as it was.
pub record FillsFront {A T E : Type 0} (count : ℕ) (result : Result T E) (old new : List A) : Type 0 where
  pub within : count ≤ length new
  pub full : OnOk result (count ≡ length new)
  pub part : OnErr result (count < length new)
  pub rest : drop count new ≡ drop count old
