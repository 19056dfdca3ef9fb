-- A reader at its samples: its items, blocks of them, and how many bytes it gave.
use Rattle.std.specs.Prelude.{◌≡◌, ℕ, ◌+◌, ◌-◌, ◌*◌, ◌%◌, ◌<◌, ◌≤◌, List, length, drop, Option, Some, None, IsSome, Result, Ok, Err, [], ◌∷◌, take, ⊤, min, OnOk, OnErr, ◌^◌, ◌⊎◌}
use Rattle.std.specs.List.{AllByRecursion}
use Rattle.hound_number.specs.{WhereKnown}
use Rattle.hound_spec.specs.declared.error.Error.{Error}
use Rattle.hound_spec.specs.declared.error.Error.TheVariants.{IoError}
use Rattle.hound_spec.specs.declared.spec.SampleFormat.{SampleFormat}
use Rattle.hound_spec.specs.declared.spec.WavSpecEx.{WavSpecEx}
use Rattle.hound_sample.specs.{ReadRejection, Reads, error_of_read, ReadsItem, error_of_sample, ReadsEach, items_of, answer_of}
use Rattle.hound_walk.specs.{IsSoundSpec, AreTaken, Names, Readable, UnreadableAfter, faults_after_walk, unread}
use Rattle.hound_spec.specs.{greatest_u32}
use Rattle.std.specs.declared.io.Error.{Error as IoFault}
use Rattle.hound_sample.specs.declared.item.SampleError.{SampleError}
use Rattle.hound_sample.specs.declared.item.SampleError.TheVariants.{Failed}
use Rattle.std.proofs.Props.{props}
use Rattle.std.specs.Coded.{Unit-prop}
use Rattle.hound_medium.specs.{MediumState, Stays, one_more}
use Rattle.hound_walk.specs.declared.cause.Cause.{Cause}
use Rattle.hound_walk.specs.declared.cause.HeadError.{HeadError}
use Rattle.hound_walk.specs.declared.chunks.FileHead.{FileHead}

-- A reader as contracts see it: what it reads from, the spec with the width of a sample, how many samples the file has,
-- how many of them were requested, and how many bytes these took since the data began.
pub record ReaderState (R : Type 0) : Type 0 where
  pub reader : R
  pub spec_ex : WavSpecEx
  pub num_samples : ℕ
  pub samples_read : ℕ
  pub bytes_read : ℕ

-- how many samples are left: those that were not requested
abbrev pub samples_left : {R : Type 0} → ReaderState R → ℕ
samples_left reading = reading.num_samples - reading.samples_read

-- a spec that can be divided by, and whole frames
abbrev pub HasWholeFrames : {R : Type 0} → ReaderState R → Type 0
HasWholeFrames reading = IsSoundSpec reading.spec_ex × (reading.num_samples % reading.spec_ex.spec.channels ≡ 0)

-- the counts of a reader, after any reads and seeks: whole frames, and no more bytes than the requested samples have
pub record HasSoundCounts (spec_ex : WavSpecEx) (num_samples samples_read bytes_read : ℕ) : Type 0
  where
    pub sound : IsSoundSpec spec_ex
    pub frames : num_samples % spec_ex.spec.channels ≡ 0
    pub samples : samples_read ≤ greatest_u32 * spec_ex.spec.channels
    pub bytes : bytes_read ≤ samples_read * spec_ex.bytes_per_sample

-- the bytes that an item took: the width of a container at an Ok, none at an error of the type, and at most the width
-- if a read failed or the input ended
abbrev pub TookBytes : {A : Type 0} → ℕ → Result A Error → ℕ → ℕ → Type 0
TookBytes width (Ok value) old new = new ≡ old + width
TookBytes width (Err (IoError e)) old new = (old ≤ new) × (new ≤ old + width)
TookBytes width (Err _) old new = new ≡ old

-- the count of bytes grew by exactly what was taken of those that were left, if these are known
abbrev pub CountsTaken : {R : Type 0} → (R → Option (List ℕ)) → ReaderState R → ReaderState R → Type 0
CountsTaken left old new = (n : ℕ) × (new.bytes_read ≡ old.bytes_read + n)
    × WhereKnown (left old.reader) (left new.reader) (AreTaken n)

-- why a type doesn't read, and its meaning, at the format, the width and the bits of a spec
abbrev pub rejection_at : (SampleFormat → ℕ → ℕ → Option ReadRejection) → WavSpecEx → Option ReadRejection
rejection_at rejection s = rejection s.spec.sample_format s.bytes_per_sample s.spec.bits_per_sample

abbrev pub meaning_at : {A : Type 0} → (SampleFormat → ℕ → ℕ → List ℕ → A) → WavSpecEx → List ℕ → A
meaning_at meaning s = meaning s.spec.sample_format s.bytes_per_sample s.spec.bits_per_sample

-- An item of a type with these tables was given: it is what `read` of the type returns, and it counts.
pub record GivesItem {R A : Type 0} (left : R → Option (List ℕ)) (rejection : Option ReadRejection)
    (meaning : List ℕ → A) (item : Result A Error) (old new : ReaderState R) : Type 0 where
  pub inside : old.samples_read < old.num_samples
  pub counted : new.samples_read ≡ old.samples_read + 1
  pub read : Reads rejection meaning old.spec_ex.bytes_per_sample (left old.reader) (left new.reader) item
  pub untouched : IsSome rejection → new.reader ≡ old.reader
  pub bytes : TookBytes old.spec_ex.bytes_per_sample item old.bytes_read new.bytes_read
  pub taken : CountsTaken left old new
  pub spec_ex : new.spec_ex ≡ old.spec_ex
  pub num_samples : new.num_samples ≡ old.num_samples

-- `next`: an item while samples are left, then None and nothing changes
abbrev pub IsNext : {R A : Type 0} → (R → Option (List ℕ))
    → (SampleFormat → ℕ → ℕ → Option ReadRejection) → (SampleFormat → ℕ → ℕ → List ℕ → A) → Option (Result A Error)
    → ReaderState R → ReaderState R → Type 0
IsNext left rejection meaning None old new = (old.num_samples ≤ old.samples_read) × (new ≡ old)
IsNext left rejection meaning (Some item) old new = GivesItem left (rejection_at rejection old.spec_ex)
    (meaning_at meaning old.spec_ex) item old new

-- containers of the width of a spec, in whole frames, whose bytes 32 bits can count
pub record AreContainers (s : WavSpecEx) (list : List (List ℕ)) : Type 0 where
  pub each : AllByRecursion (λ c. length c ≡ s.bytes_per_sample) list
  pub frames : length list % s.spec.channels ≡ 0
  pub fits : length list * s.bytes_per_sample ≤ greatest_u32

-- The first items of data with containers of this width: each is the error of the type, or each is the meaning of its
-- own container, which is complete. Nothing is claimed after the first `IoError`.
abbrev pub AreItems : {A : Type 0} → Option ReadRejection → (List ℕ → A) → ℕ → List ℕ → List (Result A Error) → Type 0
AreItems rejection meaning width bytes [] = ⊤
AreItems (Some rejection) meaning width bytes (item ∷ items) = (item ≡ Err (error_of_read rejection))
    × AreItems (Some rejection) meaning width bytes items
AreItems None meaning width bytes (Ok value ∷ items) = (width ≤ length bytes)
    × (value ≡ meaning (take width bytes)) × AreItems None meaning width (drop width bytes) items
AreItems None meaning width bytes (Err (IoError e) ∷ items) = ⊤
AreItems None meaning width bytes (Err _ ∷ items) = ⊥

-- these items were given one after the other
abbrev pub GivesItems : {R A : Type 0} → (R → Option (List ℕ))
    → (SampleFormat → ℕ → ℕ → Option ReadRejection) → (SampleFormat → ℕ → ℕ → List ℕ → A) → List (Result A Error)
    → ReaderState R → ReaderState R → Type 0
GivesItems left rejection meaning [] old new = new ≡ old
GivesItems {R} left rejection meaning (item ∷ items) old new = (mid : ReaderState R)
    × IsNext left rejection meaning (Some item) old mid
    × GivesItems left rejection meaning items mid new

-- a sample of a spec is read as `read_item` of a type does it
abbrev pub AnswersRead : {A : Type 0} → (SampleFormat → ℕ → ℕ → Option ReadRejection)
    → (SampleFormat → ℕ → ℕ → List ℕ → A) → WavSpecEx → Option (List ℕ) → Option (List ℕ) → Result A SampleError
    → Type 0
AnswersRead rejection meaning s old new answer =
    ReadsItem (rejection_at rejection s) (meaning_at meaning s) s.bytes_per_sample old new answer

-- the next item is given, whichever the fault of one without a sample is
abbrev pub AnswersNext : {R A : Type 0} → (R → Option (List ℕ))
    → (SampleFormat → ℕ → ℕ → Option ReadRejection) → (SampleFormat → ℕ → ℕ → List ℕ → A)
    → Option (Result A SampleError) → ReaderState R → ReaderState R → Type 0
AnswersNext left rejection meaning None old new = IsNext left rejection meaning None old new
AnswersNext left rejection meaning (Some (Ok value)) old new = IsNext left rejection meaning (Some (Ok value)) old new
AnswersNext left rejection meaning (Some (Err no_sample)) old new = (fault : IoFault)
    → IsNext left rejection meaning (Some (Err (error_of_sample no_sample fault))) old new

-- how many bytes an item without a sample took, of those given for it: what was given of a container of this width if a
-- fault or the end cut it, and none at an error of the type
abbrev pub taken_without : SampleError → ℕ → ℕ → ℕ
taken_without Failed given width = min given width
taken_without _ given width = 0

-- a reader with the bytes that are left in place of what it reads from
abbrev pub over_bytes : {R : Type 0} → (R → Option (List ℕ)) → ReaderState R → ReaderState (Option (List ℕ))
over_bytes left reading = record {
  reader = left reading.reader;
  spec_ex = reading.spec_ex;
  num_samples = reading.num_samples;
  samples_read = reading.samples_read;
  bytes_read = reading.bytes_read;
}

-- these items came from the bytes that are left, one after the other
abbrev pub GivesItemsOfBytes : {R A : Type 0} → (R → Option (List ℕ))
    → (SampleFormat → ℕ → ℕ → Option ReadRejection) → (SampleFormat → ℕ → ℕ → List ℕ → A)
    → List (Result A Error) → ReaderState R → ReaderState R → Type 0
GivesItemsOfBytes left rejection meaning items old new = GivesItems (λ (bytes : Option (List ℕ)). bytes)
    rejection meaning items (over_bytes left old) (over_bytes left new)

-- how many samples a block requested: those that came, and the one in whose place an error came
abbrev pub requested : {T E : Type 0} → ℕ → Result T E → ℕ
requested count (Ok done) = count
requested count (Err error) = count + 1

-- how many bytes a block took: its containers, and what was taken for an item without a sample
abbrev pub block_bytes : {T : Type 0} → ℕ → ℕ → ℕ → Result T SampleError → ℕ
block_bytes count width given (Ok done) = count * width
block_bytes count width given (Err reason) = count * width + taken_without reason (given - count * width) width

-- this many samples and bytes further
abbrev pub further : {R : Type 0} → ReaderState R → ℕ → ℕ → R → ReaderState R
further reading samples bytes reader = record reading {
  reader = reader;
  samples_read = reading.samples_read + samples;
  bytes_read = reading.bytes_read + bytes;
}

-- `read_samples`: a block is items. The samples that came are the front of the slice, `count` of them: all that fit or
-- are left, or fewer if the next item is the error. The rest of the slice stays.
pub record ReadsBlock {R A : Type 0} (left : R → Option (List ℕ))
    (rejection : SampleFormat → ℕ → ℕ → Option ReadRejection)
    (meaning : SampleFormat → ℕ → ℕ → List ℕ → A) (count : ℕ) (result : Result (Unit {0}) Error)
    (before after : List A) (old new : ReaderState R) : Type 0 where
  pub within : count ≤ min (length after) (samples_left old)
  pub all : OnOk result (count ≡ min (length after) (samples_left old))
  pub part : OnErr result (count < min (length after) (samples_left old))
  pub items : GivesItemsOfBytes left rejection meaning (items_of (take count after) result) old new
  pub counted : samples_left new ≡ samples_left old - requested count result
  pub rest : drop count after ≡ drop count before
  pub untouched : IsSome (rejection_at rejection old.spec_ex) → new.reader ≡ old.reader

-- samples of a spec are read as `read` of a type does it, whichever the fault is
abbrev pub AnswersReadMany : {A : Type 0} → (SampleFormat → ℕ → ℕ → Option ReadRejection)
    → (SampleFormat → ℕ → ℕ → List ℕ → A) → WavSpecEx → Option (List ℕ) → Option (List ℕ) → List A
    → Result (Unit {0}) SampleError → Type 0
AnswersReadMany rejection meaning s old new values answer = (fault : IoFault)
    → ReadsEach (rejection_at rejection s) (meaning_at meaning s) s.bytes_per_sample
    (items_of values (answer_of answer fault)) old new

-- If the bytes are known, those that were left at first and are not left now have been given, from the front, and
-- `given` counts them, up to the maximum of `u64`.
abbrev pub HasGiven : Option (List ℕ) → ℕ → Option (List ℕ) → Type 0
HasGiven None given left = ⊤
HasGiven (Some xs) given None = ⊥
HasGiven (Some xs) given (Some ys) = (length ys ≤ length xs) × (ys ≡ drop (length xs - length ys) xs)
    × (given ≡ min (length xs - length ys) (2 ^ 64 - 1))

pub HasGiven-prop : (first : Option (List ℕ)) (given : ℕ) (left : Option (List ℕ)) → IsProp (HasGiven first given left)
HasGiven-prop None given left = Unit-prop
HasGiven-prop (Some xs) given None = λ a b. absurd a
HasGiven-prop (Some xs) given (Some ys) = hlevel props

-- the result of a walk to the samples of these bytes, of which `rest` is left
abbrev pub AnswersSamples : Result (FileHead × ℕ) HeadError → List ℕ → List ℕ → Type 0
AnswersSamples (Ok found) bytes rest =
    Readable bytes found.0.spec_ex found.1 found.0.data_start × (rest ≡ drop found.0.data_start bytes)
AnswersSamples (Err stop) bytes rest = ⊤

-- a walk over a source: its result is that of the bytes from the place on, and only the place moves
pub record FindsSamples (result : Result (FileHead × ℕ) HeadError) (old new : MediumState) : Type 0
  where
    pub answer : AnswersSamples result (unread old) (unread new)
    pub faults : new.faults ≡ faults_after_walk result old.faults
    pub stays : Stays old new
    pub flushed : new.flushed ≡ old.flushed

-- A reader of a source: its bytes have a head with whole frames, exactly what is before the data was taken, and nothing
-- else has changed.
pub record OpensSource {R : Type 0} (old : MediumState) (state : R → MediumState) (r : ReaderState R) : Type 0 where
  pub start : ℕ
  pub readable : Readable (unread old) r.spec_ex r.num_samples start
  pub rest : unread (state r.reader) ≡ drop start (unread old)
  pub stays : Stays old (state r.reader)
  pub flushed : (state r.reader).flushed ≡ old.flushed
  pub faults : (state r.reader).faults ≡ old.faults

-- A file that isn't opened: for a cause that its bytes have, for which exactly so many of them were taken; or since a
-- read failed, which the source has counted. Nothing else has changed.
pub record IsNotOpened (old new : MediumState) (e : Error) : Type 0 where
  pub stays : Stays old new
  pub flushed : new.flushed ≡ old.flushed
  pub why : ((cause : Cause) × (n : ℕ) × UnreadableAfter (unread old) cause n × Names e cause
      × AreTaken n (unread old) (unread new) × (new.faults ≡ old.faults))
      ⊎ ((fault : IoFault) × (e ≡ IoError fault) × (new.faults ≡ one_more old.faults))
