-- One step more, and one session more.
use Rattle.std.proofs.lemmas.Grind.{common_steps}
use Rattle.std.proofs.Common.{arith}
use Rattle.std.proofs.Common.{◌≡◌, ℕ, ◌+◌, ◌<◌, List, [], ◌∷◌, ◌++◌, length, get_or, set, take, map, Bool, Result, sym, ◌∙◌, ap, drop, Ok, Err}
use Rattle.std.proofs.lemmas.List.{map-append, take_more, take_more_set}
use Rattle.hound_spec.specs.declared.error.Error.{Error}
use Rattle.hound_writer.specs.{Ghosts, mark_of, Call, Lead, asked_by_all, WriterState}
use Rattle.hound_writer.proofs.Recording.{asked_more, call_at, lead_more, lead_spec}
use Rattle.hound.specs.declared.session.Step.{Step}
use Rattle.hound.specs.Run.{Takes, asked_by}

module _ {M : Type 0} (kind : Ghosts M) where
  -- the calls of these steps were made, with these marks
  abbrev pub MarkedRun : List Step → List Bool → WriterState M → WriterState M → Type 0
  MarkedRun steps marks old new =
      (calls : List Call) × (asked_by_all calls ≡ map (asked_by old.spec_ex) steps)
      × (marks ≡ map (λ (call : Call). mark_of call.answer) calls)
      × Lead kind calls old new

  -- one step more, and its mark
  pub marked_more : (steps : List Step) (marks : List Bool) (i : ℕ) (d : Step)
      (answer : Result (Unit {0}) Error) (is : Bool) (a b c : WriterState M) → i < length steps
      → i < length marks → is ≡ mark_of answer
      → MarkedRun (take i steps) (take i marks) a b
      → Takes kind (get_or steps i d) answer b c
      → MarkedRun (take (i + 1) steps) (take (i + 1) (set marks i is)) a c
  marked_more steps marks i d answer is a b c inside within same (calls, asked, marked, lead) takes =
      let step = get_or steps i d in
      let call = call_at kind (asked_by b.spec_ex step) answer b in (
        calls ++ call ∷ [],
        asked_more kind calls (asked_by b.spec_ex step) answer b
            ∙ (λ j. asked j ++ asked_by (lead_spec kind calls a b lead j) step ∷ [])
            ∙ sym (map-append (asked_by a.spec_ex) (take i steps) (step ∷ []))
            ∙ ap (map (asked_by a.spec_ex)) (sym (take_more steps i d inside)),
        take_more_set marks i is within ∙ (λ j. marked j ++ same j ∷ [])
            ∙ sym (map-append (λ (one : Call). mark_of one.answer) calls (call ∷ [])),
        lead_more kind calls (asked_by b.spec_ex step) answer a b c lead takes,
      )

-- a result that is no error
pub is_ok : (answer : Result (Unit {0}) Error) → ((e : Error) → answer ≡ Err e → ⊥) → answer ≡ Ok tt
is_ok answer fine = grind (arith, common_steps)

-- Where R says what a list comes to from a state: whatever the part comes to that is left, the whole comes to it too.
module _ {X S M : Type 0} (R : List X → S → Result (Unit {0}) Error → M → Type 0) where
  abbrev pub Leads : List X → List X → S → S → Type 0
  Leads xs left first now =
      (answer : Result (Unit {0}) Error) (medium : M) → R left now answer medium
      → R xs first answer medium

  pub leads_on : (xs : List X) (i : ℕ) (a b : S) → Leads xs (drop i xs) a b → (d : X)
      → i < length xs → (answer : Result (Unit {0}) Error) (medium : M)
      → R (get_or xs i d ∷ drop (i + 1) xs) b answer medium → R xs a answer medium
  leads_on xs i a b leads d inside answer medium here = grind (arith, common_steps)
