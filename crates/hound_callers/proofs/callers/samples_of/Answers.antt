use Rattle.std.proofs.Common.{◌≡◌, ℕ, List, [], ◌∷◌, ◌++◌, length, map, drop, Option, None, Some, Result, Ok, Err, IsErrAnd, MatchResult, ◌⊎◌, inl, refl, sym, ap, subst, ◌∙◌}
use Rattle.std.proofs.lemmas.List.{length-map, map-append}
use Rattle.std.proofs.lemmas.Option.{IfSome_then}
use Rattle.hound.specs.{AreItems, Error, GivesItems, IsIoError, IsNext, ReaderState, ReadRejection, containers, meaning_at, taken_reader}
use Rattle.hound.specs.declared.Error.TheVariants.{IoError, OutOfMemory}
use Rattle.hound.specs.declared.SampleFormat.{SampleFormat}
use Rattle.hound_callers.proofs.callers.samples_of.Goals as goal

-- items, and one more
module _ {R A : Type 0} (left : R → Option (List ℕ)) (rejection : SampleFormat → ℕ → ℕ → Option ReadRejection)
    (meaning : SampleFormat → ℕ → ℕ → List ℕ → A) where
  one_more : (items : List (Result A Error)) (item : Result A Error) (old mid new : ReaderState R)
      → GivesItems left rejection meaning items old mid
      → IsNext left rejection meaning (Some item) mid new
      → GivesItems left rejection meaning (items ++ item ∷ []) old new
  one_more [] item old mid new is next =
      (new, subst (λ r. IsNext left rejection meaning (Some item) r new) is next, refl)
  one_more (first ∷ items) item old mid new (then, given, others) next =
      (then, given, one_more items item then mid new others next)

-- items that are all samples are the meanings of the containers
meanings : {A : Type 0} (meaning : List ℕ → A) (width : ℕ) (bytes : List ℕ) (values : List A)
    → AreItems None meaning width bytes (map Ok values)
    → values ≡ map meaning (containers width (length values) bytes)
meanings meaning width bytes [] are = refl
meanings meaning width bytes (value ∷ values) (whole, is, are) =
    λ i. is i ∷ meanings meaning width (drop width bytes) values are i

-- an error after items that are samples is an `IoError`
last_fault : {A : Type 0} (meaning : List ℕ → A) (width : ℕ) (bytes : List ℕ) (values : List A)
    (e : Error) → AreItems None meaning width bytes (map Ok values ++ Err e ∷ []) → IsIoError e
last_fault meaning width bytes [] (IoError e) are = tt
last_fault meaning width bytes [] _ are = absurd are
last_fault meaning width bytes (value ∷ values) e (whole, is, are) =
    last_fault meaning width (drop width bytes) values e are

-- that error is what is returned for it
failed : {T : Type 0} (P : T → Type 0) (result : Result T Error) (e : Error)
    → IsErrAnd result (λ r. r ≡ e) → IsIoError e
    → MatchResult result P (λ e. IsIoError e ⊎ (e ≡ OutOfMemory))
failed P (Ok x) e is holds = absurd is
failed P (Err r) e is holds = inl (subst IsIoError (sym is) holds)

pub loop-sample-preserved : goal.loop-sample-preserved
loop-sample-preserved g c =
    let left = g.R.Read.remaining in
    let rejection = g.S.Sample.rejection in
    let meaning = g.S.Sample.meaning in
    let old = taken_reader c.loop-sample.sample-iterator in
    let new = taken_reader c.next.new.self in
    rw (c.in_ok-push.ensures.items, map-append)
    (one_more left rejection meaning (map Ok c.loop-sample.samples.items) (Ok c.in_ok-sample.field-0)
    c.args.reader old new c.loop-sample.invariant
    (subst (λ item. IsNext left rejection meaning (Some item) old new) c.in_ok-sample.was c.in-Some.ensures.steps))

pub returns-in_err-sample : goal.returns-in_err-sample
returns-in_err-sample g c =
    let left = g.R.Read.remaining in
    let rejection = g.S.Sample.rejection in
    let meaning = g.S.Sample.meaning in
    let s = c.args.reader.spec_ex in
    let items = c.loop-sample.samples.items in
    let old = taken_reader c.loop-sample.sample-iterator in
    let new = taken_reader c.next.new.self in
    let e = c.in_err-sample.field-0.0 in
    IfSome_then (left c.args.reader.reader)
    (c.items_are_of_the_file.ensures.items (map Ok items ++ Err e ∷ []) c.args.reader new
    (one_more left rejection meaning (map Ok items) (Err e) c.args.reader old new c.loop-sample.invariant
    (subst (λ item. IsNext left rejection meaning (Some item) old new) c.in_err-sample.was c.in-Some.ensures.steps)))
    (λ bytes are none. failed _ c.from_residual.result e c.from_residual.ensures.1
    (last_fault (meaning_at meaning s) s.bytes_per_sample bytes items e (rw none at are)))

pub returns : goal.returns
returns g c =
    let s = c.args.reader.spec_ex in
    let meaning = meaning_at g.S.Sample.meaning s in
    let items = c.loop-sample.samples.items in
    let last = taken_reader c.loop-sample.sample-iterator in
    let count = c.an_iterator_gives_what_it_hints.ensures.after (map Ok items) c.args.reader last _
    c.loop-sample.invariant c.in-None.ensures.steps in
    IfSome_then (g.R.Read.remaining c.args.reader.reader)
    (c.items_are_of_the_file.ensures.items (map Ok items) c.args.reader last c.loop-sample.invariant)
    (λ bytes are none. meanings meaning s.bytes_per_sample bytes items (rw none at are)
    ∙ ap (λ n. map meaning (containers s.bytes_per_sample n bytes)) (sym (length-map items Ok) ∙ count))
