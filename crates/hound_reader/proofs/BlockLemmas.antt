-- Samples that were read at once, as items.
use Rattle.std.proofs.lemmas.Grind.{common_steps}
use Rattle.std.proofs.Common.{◌≡◌, ℕ, suc, ◌+◌, ◌-◌, ◌*◌, ◌^◌, ◌<◌, ◌≤◌, min, List, [], ◌∷◌, ◌++◌, map, length, take, drop, refl, sym, ap, ◌∙◌, subst, arith, Option, None, Some, Result, Ok, Err}
use Rattle.std.proofs.lemmas.List.{drop-drop, length-drop, length-take-le, length-append, take-append-le, drop-append-le, take-append-drop}
use Rattle.std.specs.Prelude.{IsSome}
use Rattle.std.specs.declared.io.Error.{Error as IoFault}
use Rattle.hound_number.specs.{WhereKnown}
use Rattle.hound_spec.specs.declared.error.Error.{Error}
use Rattle.hound_spec.specs.declared.spec.SampleFormat.{SampleFormat}
use Rattle.hound_sample.specs.{FillsFront, items_of, answer_of, ReadsEach, ReadRejection, Reads, error_of_read, ReadsItem, reason_of, error_of_sample}
use Rattle.std.proofs.lemmas.Nat.{mul-le}
use Rattle.hound_walk.specs.{AreTaken}
use Rattle.hound_reader.specs.Reader.{ReadsBlock, block_bytes, further, requested, GivesItemsOfBytes, over_bytes, HasGiven, taken_without, GivesItems, ReaderState, IsNext, CountsTaken, rejection_at, meaning_at, samples_left}
use Rattle.hound_sample.specs.declared.item.SampleError.{SampleError}
use Rattle.hound_reader.proofs.ItemLemmas.{a_container_is_taken}

-- an Ok of a type that doesn't read the samples
no_value : {A : Type 0} {P : Type 0} (value : A) (error : Error)
    → (let answer : Result A Error = Ok value in answer) ≡ Err error → P
no_value value error is = cc

-- the error of a type that doesn't read the samples, by its reason
pub rejection_by_reason : (rejection : ReadRejection) (fault : IoFault)
    → error_of_sample (reason_of (error_of_read rejection)) fault ≡ error_of_read rejection
rejection_by_reason rejection fault = grind (arith, common_steps)

-- an error that ended samples, by its reason, whichever the fault is
error_by_reason : {A : Type 0} (rejection : Option ReadRejection) (meaning : List ℕ → A) (width : ℕ)
    (old new : Option (List ℕ)) (e : Error) (fault : IoFault)
    → Reads rejection meaning width old new (Err e)
    → Reads rejection meaning width old new (Err (error_of_sample (reason_of e) fault))
error_by_reason rejection meaning width old new e fault read = grind (arith, common_steps, rejection_by_reason)

pub each_by_reason : {A : Type 0} (rejection : Option ReadRejection) (meaning : List ℕ → A) (width : ℕ)
    (values : List A) (e : Error) (reason : SampleError) (fault : IoFault) (old new : Option (List ℕ))
    → reason ≡ reason_of e
    → ReadsEach rejection meaning width (map Ok values ++ (Err e ∷ [])) old new
    → ReadsEach rejection meaning width (map Ok values ++ (Err (error_of_sample reason fault) ∷ [])) old new
each_by_reason rejection meaning width [] e reason fault old new is (mid, read, same) =
    let modelled = error_by_reason rejection meaning width old mid e fault read in (mid, rw is modelled, same)
each_by_reason rejection meaning width (value ∷ values) e reason fault old new is (mid, read, rest) =
    (mid, read, each_by_reason rejection meaning width values e reason fault mid new is rest)

-- nothing is claimed for unknown bytes
unknown_read : {A : Type 0} (meaning : List ℕ → A) (width : ℕ) (item : Result A Error)
    (old new : Option (List ℕ)) → Reads None meaning width old new item
    → Reads None meaning width None new item
unknown_read meaning width item old new read = grind (arith, common_steps)

unknown_each : {A : Type 0} (meaning : List ℕ → A) (width : ℕ) (values : List A)
    → ReadsEach None meaning width (map Ok values) None None
unknown_each meaning width [] = refl
unknown_each meaning width (value ∷ values) = (None, tt, unknown_each meaning width values)

-- samples, and what was returned after them; unknown bytes stay unknown
pub each_split : {A : Type 0} (rejection : Option ReadRejection) (meaning : List ℕ → A) (width : ℕ)
    (values : List A) (item : Result A Error) (old new : Option (List ℕ))
    → ReadsEach rejection meaning width (map Ok values ++ (item ∷ [])) old new
    → (mid : Option (List ℕ)) × ReadsEach rejection meaning width (map Ok values) old mid
    × Reads rejection meaning width mid new item × (old ≡ None → mid ≡ None)
each_split rejection meaning width [] item old new (mid, read, same) =
    (old, refl, subst (λ m. Reads rejection meaning width old m item) (sym same) read, λ none. none)
each_split (Some rejection) meaning width (value ∷ values) item old new (mid, read, rest) =
    no_value value (error_of_read rejection) read.0
each_split None meaning width (value ∷ values) item None new (mid, read, rest) =
    let (end, before, last, _) = each_split None meaning width values item mid new rest in (
      None,
      (None, tt, unknown_each meaning width values),
      unknown_read meaning width item end new last,
      λ none. refl,
    )
each_split None meaning width (value ∷ values) item (Some xs) new (mid, read, rest) =
    let (end, before, last, _) = each_split None meaning width values item mid new rest in
    (end, (mid, read, before), last, λ none. cc)

-- samples that were read took their containers
each_takes : {A : Type 0} (rejection : Option ReadRejection) (meaning : List ℕ → A) (width : ℕ)
    (values : List A) (xs : List ℕ) (new : Option (List ℕ))
    → ReadsEach rejection meaning width (map Ok values) (Some xs) new
    → (length values * width ≤ length xs) × (new ≡ Some (drop (length values * width) xs))
each_takes rejection meaning width [] xs new same = grind (arith, common_steps)
each_takes rejection meaning width (value ∷ values) xs new (mid, read, rest) =
    let more = each_takes rejection meaning width values in
    grind (arith, common_steps, a_container_is_taken, read, rest, more, length-drop, drop-drop)

-- an item without a sample took as many bytes as were given after the samples
pub torn_takes : {A : Type 0} (rejection : Option ReadRejection) (meaning : List ℕ → A) (width : ℕ)
    (values : List A) (reason : SampleError) (fault : IoFault) (given : ℕ)
    (old mid new : Option (List ℕ)) → length values * width + width < 2 ^ 64
    → HasGiven old given new → ReadsEach rejection meaning width (map Ok values) old mid
    → Reads rejection meaning width mid new (Err (error_of_sample reason fault))
    → (old ≡ None → mid ≡ None)
    → WhereKnown mid new (AreTaken (taken_without reason (given - length values * width) width))
torn_takes rejection meaning width values reason fault given old mid new few has before read same =
    grind (arith, common_steps, each_takes, length-drop)

-- an item without a sample is given, whichever its fault is
pub no_sample_is_given : {R A : Type 0} (left : R → Option (List ℕ))
    (rejection : SampleFormat → ℕ → ℕ → Option ReadRejection) (meaning : SampleFormat → ℕ → ℕ → List ℕ → A)
    (old new : ReaderState R) (reason : SampleError) (given : ℕ)
    → old.samples_read < old.num_samples → old.spec_ex.bytes_per_sample < 2 ^ 64
    → new ≡ further old 1 (taken_without reason given old.spec_ex.bytes_per_sample) new.reader
    → ReadsItem (rejection_at rejection old.spec_ex) (meaning_at meaning old.spec_ex)
    old.spec_ex.bytes_per_sample (left old.reader) (left new.reader) (Err reason)
    → (IsSome (rejection_at rejection old.spec_ex) → new.reader ≡ old.reader)
    → HasGiven (left old.reader) given (left new.reader) → (fault : IoFault)
    → IsNext left rejection meaning (Some (Err (error_of_sample reason fault))) old new
no_sample_is_given left rejection meaning old new reason given inside small is read untouched has fault =
    let width = old.spec_ex.bytes_per_sample in
    let known : WhereKnown (left old.reader) (left new.reader) (AreTaken (taken_without reason given width)) =
    grind (arith, common_steps, read fault, length-drop) in
    let taken : CountsTaken left old new =
    (taken_without reason given width, ap (λ (r : ReaderState _). r.bytes_read) is, known) in
    grind (arith, common_steps, taken, read fault)

module _ {A : Type 0} (rejection : SampleFormat → ℕ → ℕ → Option ReadRejection)
    (meaning : SampleFormat → ℕ → ℕ → List ℕ → A) where
  abbrev Gives : List (Result A Error) → ReaderState (Option (List ℕ)) → ReaderState (Option (List ℕ)) → Type 0
  Gives items old new = GivesItems (λ (bytes : Option (List ℕ)). bytes) rejection meaning items old new

  -- samples that were read are items
  samples_are_items : (values : List A) (old : ReaderState (Option (List ℕ)))
      (new : Option (List ℕ)) → length values ≤ samples_left old
      → ReadsEach (rejection_at rejection old.spec_ex) (meaning_at meaning old.spec_ex)
      old.spec_ex.bytes_per_sample (map Ok values) old.reader new
      → Gives (map Ok values) old
      (further old (length values) (length values * old.spec_ex.bytes_per_sample) new)
  samples_are_items [] old new few same = grind (arith, common_steps)
  samples_are_items (value ∷ values) old new few (mid, read, rest) =
      let width = old.spec_ex.bytes_per_sample in
      let next = further old 1 width mid in (
        next,
        (let taken : CountsTaken (λ (bytes : Option (List ℕ)). bytes) old next =
            (width, refl, a_container_is_taken (rejection_at rejection old.spec_ex) _ _ _ _ value read) in
            grind (arith, common_steps, taken, read)),
        subst (Gives (map Ok values) next) (let e : further next (length values) (length values * width) new
            ≡ further old (suc (length values)) (suc (length values) * width) new = grind (arith, common_steps) in e)
            (samples_are_items values next new (omega (arith, few)) rest),
      )

  -- items, and then one more
  items_more : (items : List (Result A Error)) (item : Result A Error)
      (old mid new : ReaderState (Option (List ℕ))) → Gives items old mid
      → IsNext (λ (bytes : Option (List ℕ)). bytes) rejection meaning (Some item) mid new
      → Gives (items ++ (item ∷ [])) old new
  items_more [] item old mid new before step = (
    new,
    subst (λ s. IsNext (λ (bytes : Option (List ℕ)). bytes) rejection meaning (Some item) s new) before step,
    refl,
  )
  items_more (first ∷ items) item old mid new (next, given, before) step =
      (next, given, items_more items item next mid new before step)

  -- samples that were read, and the error that ended them, are items
  block_items : (values : List A) (answer : Result (Unit {0}) SampleError) (fault : IoFault)
      (given : ℕ) (old : ReaderState (Option (List ℕ))) (new : Option (List ℕ))
      → requested (length values) answer ≤ samples_left old
      → length values * old.spec_ex.bytes_per_sample + old.spec_ex.bytes_per_sample < 2 ^ 64
      → HasGiven old.reader given new
      → ReadsEach (rejection_at rejection old.spec_ex) (meaning_at meaning old.spec_ex)
      old.spec_ex.bytes_per_sample (items_of values (answer_of answer fault)) old.reader new
      → Gives (items_of values (answer_of answer fault)) old
      (further old (requested (length values) answer)
      (block_bytes (length values) old.spec_ex.bytes_per_sample given answer) new)
  block_items values (Ok done) fault given old new few small has each =
      samples_are_items values old new few each
  block_items values (Err reason) fault given old new few small has each =
      let width = old.spec_ex.bytes_per_sample in
      let k = length values in
      let r = rejection_at rejection old.spec_ex in
      let m = meaning_at meaning old.spec_ex in
      let (mid, before, read, unknown) = each_split r m width values _ old.reader new each in
      let torn = taken_without reason (given - k * width) width in
      let next = further old k (k * width) mid in
      let last : ReaderState (Option (List ℕ)) = further next 1 torn new in
      subst (Gives (map Ok values ++ (Err (error_of_sample reason fault) ∷ [])) old)
      (let e : last ≡ further old (k + 1) (k * width + torn) new = grind (arith, common_steps) in e)
      (items_more (map Ok values) _ old next last (samples_are_items values old mid (omega (arith, few)) before)
      (let taken : CountsTaken (λ (bytes : Option (List ℕ)). bytes) next last =
      (torn, refl, torn_takes r m width values reason fault given old.reader mid new small has before read unknown) in
      grind (arith, common_steps, taken, read)))

-- a front of a slice that was filled to a place: the slice before that place, and after it
front_filled : {A : Type 0} (count wanted : ℕ) (xs ys : List A) → wanted ≤ length xs
    → length ys ≡ length (take wanted xs) → count ≤ length ys
    → drop count ys ≡ drop count (take wanted xs)
    → (take count (ys ++ drop wanted xs) ≡ take count ys)
    × (drop count (ys ++ drop wanted xs) ≡ drop count xs)
    × (length (ys ++ drop wanted xs) ≡ length xs)
front_filled count wanted xs ys within size few rest =
    let front = length-take-le wanted xs within in (
      take-append-le count ys (drop wanted xs) few,
      drop-append-le count ys (drop wanted xs) few ∙ ap (λ l. l ++ drop wanted xs) rest
          ∙ sym (drop-append-le count (take wanted xs) (drop wanted xs) (omega (arith, few, size)))
          ∙ ap (drop count) (take-append-drop wanted xs),
      length-append ys (drop wanted xs) ∙ omega (arith, size, front, within, length-drop wanted xs),
    )

module _ {R A : Type 0} (left : R → Option (List ℕ))
    (rejection : SampleFormat → ℕ → ℕ → Option ReadRejection) (meaning : SampleFormat → ℕ → ℕ → List ℕ → A) where
  -- samples that were read into the front of a slice, and the error that ended them, are a block
  pub is_block : (count wanted given : ℕ) (modelled answer : Result (Unit {0}) SampleError)
      (fault : IoFault) (xs ys : List A) (old new : ReaderState R) → modelled ≡ answer
      → wanted ≡ min (length xs) (samples_left old) → length ys ≡ length (take wanted xs)
      → old.num_samples < 2 ^ 32 → old.spec_ex.bytes_per_sample ≤ 2 ^ 16
      → FillsFront count modelled (take wanted xs) ys
      → ReadsEach (rejection_at rejection old.spec_ex) (meaning_at meaning old.spec_ex)
      old.spec_ex.bytes_per_sample (items_of (take count ys) (answer_of modelled fault)) (left old.reader)
      (left new.reader)
      → HasGiven (left old.reader) given (left new.reader)
      → (IsSome (rejection_at rejection old.spec_ex) → new.reader ≡ old.reader)
      → over_bytes left new
      ≡ further (over_bytes left old) (requested count answer)
      (block_bytes count old.spec_ex.bytes_per_sample given answer) (left new.reader)
      → ReadsBlock left rejection meaning count (answer_of answer fault) xs (ys ++ drop wanted xs) old new
  is_block count wanted given modelled answer fault xs ys old new shown is size small narrow fills each has untouched
      after =
      let begin = over_bytes left old in
      let width = old.spec_ex.bytes_per_sample in
      let front = subst (λ a. FillsFront count a (take wanted xs) ys) shown fills in
      let (taken, rest, long) = front_filled count wanted xs ys (omega (arith, is)) size front.within front.rest in
      let wide = length-take-le wanted xs (omega (arith, is)) in
      let all = length-take-le count ys front.within in
      let few : requested (length (take count ys)) answer ≤ samples_left old =
      grind (arith, common_steps, front, all, size, wide, is) in
      let bytes = mul-le (length (take count ys) + 1) width (2 ^ 32) (2 ^ 16)
      (omega (arith, all, front.within, size, wide, is, small)) narrow in
      record {
        within = omega (arith, front.within, size, wide, is, long);
        all = grind (arith, common_steps, front, size, wide, is, long);
        part = grind (arith, common_steps, front, size, wide, is, long);
        items = subst (λ (x : List A × ReaderState (Option (List ℕ))).
            Gives rejection meaning (items_of x.0 (answer_of answer fault)) begin x.1)
            (λ i. (
              sym taken i,
              (ap (λ n. further begin (requested n answer) (block_bytes n width given answer) (left new.reader)) all
                  ∙ sym after) i,
            ))
            (block_items rejection meaning (take count ys) answer fault given begin (left new.reader) few
            (omega (arith, bytes)) has
            (subst (λ a. ReadsEach (rejection_at rejection old.spec_ex) (meaning_at meaning old.spec_ex) width
            (items_of (take count ys) (answer_of a fault)) (left old.reader) (left new.reader)) shown each));
        counted = grind (arith, common_steps, ap (λ (s : ReaderState _). samples_left s) after);
        rest = rest;
        untouched = untouched;
      }

  -- the items of the iterator are items of the bytes that are left
  pub items_of_bytes : (items : List (Result A Error)) (old new : ReaderState R)
      → GivesItems left rejection meaning items old new
      → GivesItemsOfBytes left rejection meaning items old new
  items_of_bytes [] old new same = ap (over_bytes left) same
  items_of_bytes (item ∷ items) old new (mid, step, rest) = (
    over_bytes left mid,
    grind (arith, common_steps),
    items_of_bytes items mid new rest,
  )

module _ {A : Type 0} (rejection : SampleFormat → ℕ → ℕ → Option ReadRejection)
    (meaning : SampleFormat → ℕ → ℕ → List ℕ → A) where
  -- a run of items counts what it took, and leaves the spec and the number of samples unchanged
  pub run_takes : (items : List (Result A Error)) (old new : ReaderState (Option (List ℕ)))
      → Gives rejection meaning items old new → CountsTaken (λ (bytes : Option (List ℕ)). bytes) old new
      × (new.spec_ex ≡ old.spec_ex) × (new.num_samples ≡ old.num_samples)
  run_takes [] old new same = (
    (0, grind (arith, common_steps), grind (arith, common_steps)),
    grind (arith, common_steps),
    grind (arith, common_steps),
  )
  run_takes (item ∷ items) old new (mid, step, rest) =
      let ((more, counted, known), _, _) = run_takes items mid new rest in
      let (n, count, taken) = step.taken in (
        (n + more, grind (arith, common_steps), grind (arith, common_steps, length-drop, drop-drop)),
        grind (arith, common_steps),
        grind (arith, common_steps),
      )

  -- a value that was read of known bytes
  value_read : (r : Option ReadRejection) (m : List ℕ → A) (width : ℕ) (xs : List ℕ)
      (new : Option (List ℕ)) (value : A) → Reads r m width (Some xs) new (Ok value)
      → (value ≡ m (take width xs)) × (new ≡ Some (drop width xs))
  value_read r m width xs new value read = grind (arith, common_steps)

  -- the same samples come from the same bytes
  pub same_samples : (samples others : List A) (old block new : ReaderState (Option (List ℕ)))
      (xs : List ℕ) → old.reader ≡ Some xs → length samples ≡ length others
      → Gives rejection meaning (map Ok samples) old block
      → Gives rejection meaning (map Ok others) old new → (samples ≡ others) × (block ≡ new)
  same_samples [] [] old block new xs known size first second = (refl, first ∙ sym second)
  same_samples (sample ∷ samples) (other ∷ others) old block new xs known size (mid, step, first) (mid', step', second)
      =
      let width = old.spec_ex.bytes_per_sample in
      let r = rejection_at rejection old.spec_ex in
      let m = meaning_at meaning old.spec_ex in
      let (is, left) = value_read r m width xs mid.reader sample
      (subst (λ b. Reads r m width b mid.reader (Ok sample)) known step.read) in
      let (is', left') = value_read r m width xs mid'.reader other
      (subst (λ b. Reads r m width b mid'.reader (Ok other)) known step'.read) in
      let same : mid' ≡ mid = grind (arith, common_steps) in
      let (more, end) = same_samples samples others mid block new (drop width xs) left (omega (arith, size)) first
      (subst (λ s. Gives rejection meaning (map Ok others) s new) same second) in
      ((λ i. (is ∙ sym is') i ∷ more i), end)
  same_samples _ _ old block new xs known size first second = absurd (omega (arith, size))

-- bytes that are known
pub known_bytes : (bytes : Option (List ℕ)) → IsSome bytes → (xs : List ℕ) × (bytes ≡ Some xs)
known_bytes bytes some = grind (arith, common_steps)
