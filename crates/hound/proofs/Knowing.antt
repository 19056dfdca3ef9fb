-- What is known of calls, and the calls; and lemmas of the layers below for the proofs of callers.
use Rattle.std.proofs.lemmas.Grind.{common_steps}
use Rattle.std.proofs.Common.{arith}
use Rattle.std.proofs.Common.{◌≡◌, ℕ, ◌-◌, Bool, true, List, [], ◌∷◌, ◌++◌, length, map, Result, OnOk, is_ok, refl, sym, ◌∙◌, ap}
use Rattle.std.specs.List.{AllByRecursion, concat}
use Rattle.hound_spec.specs.declared.error.Error.{Error}
use Rattle.hound_medium.specs.{MediumState}
use Rattle.hound_sample.specs.{Rejection}
use Rattle.hound_writer.specs.{AcceptAnswer, AreKnown, Asked, Begun, Call, IsKnown, Known, WriterState, asked_by_all, field, found_in, made, mark_of, marked, publish, start_of}
use Rattle.hound_spec.specs.declared.spec.WavSpecEx.{WavSpecEx}
use Rattle.hound.specs.Headline.{HasPublished, HoldsAtEnd, accepted_as_seen, accepted_by_all, accepted_of, seen}
use Rattle.hound.specs.Run.{asked_by}
use Rattle.hound.specs.declared.session.Step.{Step}
pub use Rattle.hound_spec.proofs.HeaderLemmas.{length-header}
pub use Rattle.hound_sample.proofs.Joined.{length-concat}
pub use Rattle.hound_writer.proofs.Heads.{head_inside}
pub use Rattle.hound_writer.proofs.Publishing.{reads_all}
pub use Rattle.hound_writer.proofs.Samples.{samples_out}

-- a call of which something is known is among the calls
pub among : (before after : List Known) (one : Known) (calls : List Call)
    → AreKnown (before ++ (one ∷ after)) calls → (first last : List Call) × (call : Call)
    × (calls ≡ first ++ (call ∷ last)) × AreKnown before first × IsKnown one call
    × AreKnown after last
among [] after one [] are = absurd are
among [] after one (call ∷ calls) are = ([], calls, call, refl, tt, are.0, are.1)
among (other ∷ before) after one [] are = absurd are
among (other ∷ before) after one (call ∷ calls) are =
    let (first, last, found, parts, before_are, is, after_are) = among before after one calls are.1 in
    (call ∷ first, last, found, ap (λ l. call ∷ l) parts, (are.0, before_are), is, after_are)

-- what calls accepted whose marks are known
pub accepted : (list : List (Asked × Bool)) (calls : List Call) → AreKnown (seen list) calls
    → accepted_by_all calls ≡ accepted_as_seen list
accepted [] [] are = refl
accepted (one ∷ list) (call ∷ calls) are =
    λ i. accepted_of (are.0.0 i) (are.0.1 i) ++ accepted list calls are.1 i
accepted _ _ are = absurd are

-- a flush that was seen to publish, after calls whose marks were seen
pub published : (before : List (Asked × Bool)) (after : List Known) (calls : List Call)
    → AreKnown (seen before ++ (marked publish true ∷ after)) calls
    → (first last : List Call) × (flush : Call) × (calls ≡ first ++ (flush ∷ last))
    × HasPublished flush × (accepted_by_all first ≡ accepted_as_seen before)
published before after calls are = grind (arith, common_steps, among, accepted)

-- calls of which these are known publish nothing if these don't
pub publish_none : (known : List Known) (calls : List Call) → AreKnown known calls
    → AllByRecursion (λ (one : Known). one.asked ≡ publish → ⊥) known
    → AllByRecursion (λ (call : Call). call.asked ≡ publish → ⊥) calls
publish_none [] [] are none = tt
publish_none (one ∷ known) (call ∷ calls) are none =
    ((λ is. none.0 (sym are.0.0 ∙ is)), publish_none known calls are.1 none.1)
publish_none _ _ are none = absurd are

-- so the length stays that of the last flush
pub lasts : (s : WavSpecEx) (file : Begun) (before : List (Asked × Bool)) (after : List Known)
    (calls : List Call) (m : MediumState) → HoldsAtEnd s file calls m
    → AreKnown (seen before ++ (marked publish true ∷ after)) calls
    → AllByRecursion (λ (one : Known). one.asked ≡ publish → ⊥) after
    → field (start_of s file - 4) m.contents ≡ length (concat (found_in file ++ accepted_as_seen before))
lasts s file before after calls m holds are none = grind (arith, common_steps, among, accepted, publish_none)

-- the mark of a call for samples is its being Ok
pub mark_is_ok : {W : Type 0} (asked : Result (List (List ℕ)) Rejection) (w : WriterState W)
    (answer : Result (Unit {0}) Error) → AcceptAnswer asked w answer → mark_of answer ≡ is_ok answer
mark_is_ok asked w answer is = grind (arith, common_steps)

-- what holds at an Ok holds where the result is known to be one
pub at_ok : {T E P : Type 0} (r : Result T E) → is_ok r ≡ true → OnOk r P → P
at_ok r is here = grind (arith, common_steps)

-- calls that steps asked
pub known_steps : (s : WavSpecEx) (steps : List Step) (calls : List Call) → asked_by_all calls ≡ map (asked_by s) steps
    → AreKnown (map (λ step. made (asked_by s step)) steps) calls
known_steps s [] [] asked = tt
known_steps s (step ∷ steps) (call ∷ calls) asked =
    let one : call.asked ≡ asked_by s step = cc in
    let rest : asked_by_all calls ≡ map (asked_by s) steps = cc in
    ((one, tt), known_steps s steps calls rest)
known_steps s _ _ asked = cc
