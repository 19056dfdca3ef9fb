-- The items of a run.
use Rattle.std.proofs.lemmas.Grind.{common_steps}
use Rattle.std.proofs.Common.{◌≡◌, ℕ, ◌+◌, ◌<◌, ◌≤◌, List, [], ◌∷◌, length, ap, ◌∙◌, arith, Option, Some, None, Result, Ok}
use Rattle.std.specs.Prelude.{IfSome, IsSome}
use Rattle.std.specs.declared.io.Error.{Error as IoFault}
use Rattle.hound_number.specs.{WhereKnown}
use Rattle.hound_spec.specs.declared.error.Error.{Error}
use Rattle.hound_spec.specs.declared.spec.SampleFormat.{SampleFormat}
use Rattle.hound_sample.specs.{ReadRejection, Reads, answer_of}
use Rattle.hound_walk.specs.{AreTaken}
use Rattle.hound_reader.specs.Reader.{ReaderState, further, IsNext, rejection_at, meaning_at, samples_left, AreItems, GivesItems}
use Rattle.hound_sample.specs.declared.item.SampleError.{SampleError}

-- an Ok took exactly a container
pub a_container_is_taken : {A : Type 0} (rejection : Option ReadRejection) (meaning : List ℕ → A)
    (width : ℕ) (old new : Option (List ℕ)) (value : A)
    → Reads rejection meaning width old new (Ok value) → WhereKnown old new (AreTaken width)
a_container_is_taken rejection meaning width old new value read = grind (arith, common_steps)

-- a sample was given, as `read` of its type does it
pub a_sample_is_given : {R A : Type 0} (left : R → Option (List ℕ))
    (rejection : SampleFormat → ℕ → ℕ → Option ReadRejection) (meaning : SampleFormat → ℕ → ℕ → List ℕ → A)
    (old new : ReaderState R) (answer : Result A SampleError) (fault : IoFault) (value : A)
    → old.samples_read < old.num_samples
    → new ≡ further old 1 old.spec_ex.bytes_per_sample new.reader
    → Reads (rejection_at rejection old.spec_ex)
    (meaning_at meaning old.spec_ex) old.spec_ex.bytes_per_sample (left old.reader)
    (left new.reader) (answer_of answer fault)
    → (IsSome (rejection_at rejection old.spec_ex) → new.reader ≡ old.reader) → answer ≡ Ok value
    → IsNext left rejection meaning (Some (Ok value)) old new
a_sample_is_given left rejection meaning old new answer fault value inside is read untouched ok =
    grind (arith, common_steps, a_container_is_taken)

-- an item before items
item_more : {A : Type 0} (rejection : Option ReadRejection) (meaning : List ℕ → A) (width : ℕ)
    (old new : Option (List ℕ)) (item : Result A Error) (items : List (Result A Error))
    → Reads rejection meaning width old new item
    → IfSome new (λ bytes. AreItems rejection meaning width bytes items)
    → IfSome old (λ bytes. AreItems rejection meaning width bytes (item ∷ items))
item_more rejection meaning width old new item items read rest = grind (arith, common_steps)

module _ {R A : Type 0} (left : R → Option (List ℕ))
    (rejection : SampleFormat → ℕ → ℕ → Option ReadRejection) (meaning : SampleFormat → ℕ → ℕ → List ℕ → A) where
  -- a run gives the items of the bytes that were left
  pub items_given : (items : List (Result A Error)) (old new : ReaderState R)
      → GivesItems left rejection meaning items old new
      → IfSome (left old.reader)
      (λ bytes. AreItems (rejection_at rejection old.spec_ex)
      (meaning_at meaning old.spec_ex) old.spec_ex.bytes_per_sample bytes items)
  items_given [] old new run = grind (arith, common_steps)
  items_given (item ∷ items) old new (mid, step, run) =
      let more = items_given items mid new run in
      grind (arith, common_steps, item_more, step.read, step.spec_ex, more)

  -- and counts each of them
  pub items_counted : (items : List (Result A Error)) (old new : ReaderState R)
      → GivesItems left rejection meaning items old new
      → (new.samples_read ≡ old.samples_read + length items) × (length items ≤ samples_left old)
  items_counted [] old new run = grind (arith, common_steps)
  items_counted (item ∷ items) old new (mid, step, run) =
      let more = items_counted items mid new run in grind (arith, common_steps, more, step)

  -- a run leaves the number of samples of the file
  run_keeps : (items : List (Result A Error)) (old new : ReaderState R)
      → GivesItems left rejection meaning items old new → new.num_samples ≡ old.num_samples
  run_keeps [] old new run = ap (λ (r : ReaderState R). r.num_samples) run
  run_keeps (item ∷ items) old new (mid, step, run) = run_keeps items mid new run ∙ step.num_samples

  -- if none comes after a run, it gave all that were left
  pub items_all : (items : List (Result A Error)) (old new end : ReaderState R)
      → GivesItems left rejection meaning items old new
      → IsNext {A = A} left rejection meaning None new end → length items ≡ samples_left old
  items_all items old new end run none = grind (arith, common_steps, items_counted, run_keeps)

  -- and if it gave all that were left, none comes
  pub none_beyond : (items : List (Result A Error)) (next : Option (Result A Error))
      (old new end : ReaderState R) → GivesItems left rejection meaning items old new
      → length items ≡ samples_left old → IsNext left rejection meaning next new end → next ≡ None
  none_beyond items next old new end run all step = grind (arith, common_steps, items_counted, run_keeps)
