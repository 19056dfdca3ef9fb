-- What `seek` does.
use Rattle.std.specs.Prelude.{◌≡◌, ℕ, ℤ, pos, ◌+◌, ◌-◌, ◌-ℤ◌, ◌*◌, List, [], ◌∷◌, length, take, drop, ⊤, Option, None, Some, Result, Ok, Err}
use Rattle.hound_spec.specs.declared.error.Error.{Error}
use Rattle.hound_spec.specs.declared.error.Error.TheVariants.{IoError}
use Rattle.hound_spec.specs.declared.spec.WavSpecEx.{WavSpecEx}
use Rattle.std.specs.declared.io.Error.{Error as IoFault}
use Rattle.hound_medium.specs.{MediumState, Shifts}
use Rattle.hound_reader.specs.Reader.{ReaderState, CountsTaken}
use Rattle.hound_walk.specs.{unread}

-- how many samples come before a frame
abbrev pub samples_before : ℕ → WavSpecEx → ℕ
samples_before time s = time * s.spec.channels

-- how many bytes of the data come before a frame
abbrev pub bytes_before : ℕ → WavSpecEx → ℕ
bytes_before time s = samples_before time s * s.bytes_per_sample

-- the distance to a frame in bytes, from the place that the reader counts
abbrev pub way_to : {R : Type 0} → ℕ → ReaderState R → ℤ
way_to time reading = pos (bytes_before time reading.spec_ex) -ℤ pos reading.bytes_read

-- a count after a call: at an Err the old one
abbrev pub count_after : {T E : Type 0} → Result T E → ℕ → ℕ → ℕ
count_after (Ok x) count old = count
count_after (Err e) count old = old

-- The counts after `seek`: all before the frame counts as read, and an Err leaves them.
pub record Recounts {R T E : Type 0} (time : ℕ) (result : Result T E) (old new : ReaderState R) : Type 0 where
  pub samples : new.samples_read ≡ count_after result (samples_before time old.spec_ex) old.samples_read
  pub bytes : new.bytes_read ≡ count_after result (bytes_before time old.spec_ex) old.bytes_read
  pub spec_ex : new.spec_ex ≡ old.spec_ex
  pub num_samples : new.num_samples ≡ old.num_samples

-- `seek` was Ok, over a source whose bytes are known
pub record Seeks {R : Type 0} (state : R → MediumState) (time : ℕ) (old new : ReaderState R) : Type 0 where
  pub counts : Recounts {T = Unit {0}} {E = IoFault} time (Ok tt) old new
  pub source : Shifts {T = Unit {0}} {E = IoFault} (way_to time old) (Ok tt) (state old.reader) (state new.reader)

-- the source is as many bytes after the first data byte, at `start`, as the reader counts
abbrev pub IsAtCount : {R : Type 0} → (R → MediumState) → ℕ → ReaderState R → Type 0
IsAtCount state start reading = (state reading.reader).place ≡ start + reading.bytes_read

-- `seek` was Ok, over a source whose bytes are known and whose place was the counted one
pub record HasSought {R : Type 0} (state : R → MediumState) (start time : ℕ) (old new : ReaderState R) : Type 0 where
  pub at_count : IsAtCount state start old
  pub seeks : Seeks state time old new

-- what is left to be read are the data after the bytes that the reader counts as taken
abbrev pub IsWhereCounted : {R : Type 0} → (R → Option (List ℕ)) → List ℕ → ReaderState R → Type 0
IsWhereCounted left bytes reading = left reading.reader ≡ Some (drop reading.bytes_read bytes)

-- reads of a source moved its place by what they took, and left its contents
pub record ReadsInPlace (old new : MediumState) : Type 0 where
  pub contents : new.contents ≡ old.contents
  pub place : new.place ≡ old.place + (length (unread old) - length (unread new))

-- an item of any type was given, whole, rejected or torn, or a block of items, and it counts what it took
pub record PassesItem {R : Type 0} (left : R → Option (List ℕ)) (state : R → MediumState)
    (old new : ReaderState R) : Type 0 where
  pub taken : CountsTaken left old new
  pub in_place : ReadsInPlace (state old.reader) (state new.reader)
  pub spec_ex : new.spec_ex ≡ old.spec_ex
  pub num_samples : new.num_samples ≡ old.num_samples

-- items, blocks and Ok seeks, one after the other: None is an item or a block, and Some a seek to that frame
abbrev pub Follows : {R : Type 0} → (R → Option (List ℕ)) → (R → MediumState) → List (Option ℕ)
    → ReaderState R → ReaderState R → Type 0
Follows left state [] old new = new ≡ old
Follows {R} left state (None ∷ calls) old new =
    (mid : ReaderState R) × PassesItem left state old mid × Follows left state calls mid new
Follows {R} left state (Some time ∷ calls) old new =
    (mid : ReaderState R) × Seeks state time old mid × Follows left state calls mid new

-- the container with this number, from 0 on, of data with containers of this width
abbrev pub container_at : ℕ → ℕ → List ℕ → List ℕ
container_at width number bytes = take width (drop (number * width) bytes)

-- an item was given, which is the meaning of this container unless it is an `IoError`
abbrev pub IsMeaningOf : {A : Type 0} → (List ℕ → A) → List ℕ → Option (Result A Error) → Type 0
IsMeaningOf meaning container None = ⊥
IsMeaningOf meaning container (Some (Ok value)) = value ≡ meaning container
IsMeaningOf meaning container (Some (Err (IoError e))) = ⊤
IsMeaningOf meaning container (Some (Err _)) = ⊥
