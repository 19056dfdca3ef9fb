use Rattle.std.proofs.Common.{◌≡◌, ◌∙◌, ◌≤◌, ℕ, ◌-◌, ◌/◌, Bool, IsTrue, List, false, true, not, ap, Result, Ok, Err, IfErr, IfOk, MatchResult, inl, inr, subst, sym}
use Rattle.std.specs.Prelude.{⊤}
use Rattle.std.proofs.lemmas.Bool.{false≢true}
use Rattle.std.proofs.lemmas.Nat.{mul-le}
use Rattle.std.proofs.lemmas.Result.{MatchResult-weaker}
use Rattle.hound.specs.{IsFoundAt, IsSoundSpec, MediumState, MendsThroughLoss, PartlyMended, Repair, Repairs, WavSpecEx, found_length, frame_length, is_mended, mended}
use Rattle.hound.specs.declared.RepairState.TheVariants.{HasChunksAfterData}
use Rattle.hound_callers.specs.Recording.{IsDoneAgain, IsDoneAgainAfterLoss}
use Rattle.hound_callers.proofs.callers.repair_recording.Goals as goal

-- what two clauses of an Ok give
of_both : {T E : Type 0} (r : Result T E) {P Q R : T → Type 0} (N : E → Type 0) → MatchResult r P N → IfOk r Q
    → ((x : T) → P x → Q x → R x) → IfOk r R
of_both (Ok x) N one other then = then x one other
of_both (Err e) N one other then = tt

-- and what one of an error gives
of_error : {T E : Type 0} (r : Result T E) (P : T → Type 0) {N R : E → Type 0} → MatchResult r P N
    → ((e : E) → N e → R e) → IfErr r R
of_error (Ok x) P is then = tt
of_error (Err e) P is then = then e is

-- a frame has a byte
some : (s : WavSpecEx) → IsSoundSpec s → 1 ≤ frame_length s
some s (channels, width, within) = mul-le 1 1 s.spec.channels s.bytes_per_sample channels width

pub returns-clause-none_lost : goal.returns-clause-none_lost
returns-clause-none_lost g c modelled s file calls recorded kept before after flush same has_all left =
    MatchResult-weaker c.repair_to_end.result (c.repair_to_end.ensures.repaired modelled)
    (λ done repairs. c.a_repair_loses_no_published_sample.ensures s file calls recorded kept before
    after flush false (g.N.Placed.state c.args.left) (g.N.Placed.state done.0) done.1 same has_all left
    repairs (λ looks here. absurd (false≢true looks))) (λ _ _. tt)

pub returns-clause-again : goal.returns-clause-again
returns-clause-again g c modelled =
    of_both c.repair_to_end.result _ (c.repair_to_end.ensures.repaired modelled) c.repair_to_end.ensures.sound
    (λ done repairs sound looks next new other same again.
    let (whole, spec, frames, kept) = c.a_second_repair_writes_nothing.ensures false looks
    (g.N.Placed.state c.args.left) (g.N.Placed.state done.0) next new done.1 other repairs
    (λ looks here. absurd (false≢true looks)) (λ looks here. absurd (false≢true looks))
    (some done.1.spec_ex sound) same again in
    (whole, frames, kept))

-- a file that is partly mended is repaired to the same frames
done_again : ((looks again : Bool) (old : List ℕ) (mid new : MediumState) (found other : Repair) (len start : ℕ)
    → IsFoundAt looks old found len start → (found.state ≡ HasChunksAfterData → ⊥) → 1 ≤ frame_length found.spec_ex
    → PartlyMended start (found_length found) old mid.contents → Repairs again mid other new
    → (IsTrue again → other.state ≡ HasChunksAfterData → ⊥)
    → (other.spec_ex ≡ found.spec_ex) × (other.frames ≡ found.frames))
    → ((looks again : Bool) (old : List ℕ) (mid new : MediumState) (found other : Repair) (len start : ℕ)
    → IsFoundAt looks old found len start → (found.state ≡ HasChunksAfterData → ⊥) → 1 ≤ frame_length found.spec_ex
    → PartlyMended start (found_length found) old mid.contents → Repairs again mid other new
    → is_mended (not again) other.state ≡ true
    → new.contents ≡ mended start (found_length found) old)
    → (old left : List ℕ) (premise : ℕ → Type 0) (found : Repair) (len start : ℕ) → IsFoundAt false old found len start
    → is_mended true found.state ≡ true → (premise start → PartlyMended start (found_length found) old left)
    → IsDoneAgain old left premise
done_again law finished old left premise found len start is state half = inr (
  found,
  len,
  start,
  is,
  λ here positive next new other same again.
      let apart : found.state ≡ HasChunksAfterData → ⊥ =
      λ chunks. let h : false ≡ true = sym (ap (is_mended true) chunks) ∙ state in cc h in
      let partly = subst (PartlyMended start (found_length found) old) (sym same) (half here) in
      let found_same = law false false old next new found other len start is apart positive partly again
      (λ looks here. absurd (false≢true looks)) in (
        found_same.0,
        found_same.1,
        finished false false old next new found other len start is apart positive partly again,
      ),
)

pub returns-clause-stopped : goal.returns-clause-stopped
returns-clause-stopped g c modelled =
    let old = g.N.Placed.state c.args.left in
    of_error c.repair_to_end.result _ (c.repair_to_end.ensures.repaired modelled) (λ rejected not. elim not.why [
      | inl (fault, here, names, none, all) ↦ inl none.stays.contents
      | inr (io, inl none, one) ↦ inl none.stays.contents
      | inr (io, inr (found, len, start, is, state, half), one) ↦
          done_again c.a_stopped_repair_is_done_again.ensures.same c.a_stopped_repair_is_done_again.ensures.finished
          old.contents _ (λ _. ⊤) found len start is state
          (λ _. half)
    ])

-- what is left after a loss
through_loss : ((looks again : Bool) (old : List ℕ) (mid new : MediumState) (found other : Repair) (len start : ℕ)
    → IsFoundAt looks old found len start → (found.state ≡ HasChunksAfterData → ⊥) → 1 ≤ frame_length found.spec_ex
    → PartlyMended start (found_length found) old mid.contents → Repairs again mid other new
    → (IsTrue again → other.state ≡ HasChunksAfterData → ⊥)
    → (other.spec_ex ≡ found.spec_ex) × (other.frames ≡ found.frames))
    → ((looks again : Bool) (old : List ℕ) (mid new : MediumState) (found other : Repair) (len start : ℕ)
    → IsFoundAt looks old found len start → (found.state ≡ HasChunksAfterData → ⊥) → 1 ≤ frame_length found.spec_ex
    → PartlyMended start (found_length found) old mid.contents → Repairs again mid other new
    → is_mended (not again) other.state ≡ true
    → new.contents ≡ mended start (found_length found) old)
    → (old new : MediumState) → MendsThroughLoss false old new → IsDoneAgainAfterLoss old new
through_loss law finished old new mends sector left settled wide lost =
    elim (mends sector left settled wide lost) [
      | inl same ↦ inl same
      | inr (found, len, start, is, state, half) ↦
          done_again law finished old.contents left (λ start. (start - 4) / sector ≡ (start - 1) / sector) found len
          start is state half
    ]

pub returns-clause-lost : goal.returns-clause-lost
returns-clause-lost g c modelled kept =
    MatchResult-weaker c.repair_to_end.result (c.repair_to_end.ensures.lost modelled kept)
    (λ done mends. through_loss c.a_stopped_repair_is_done_again.ensures.same
    c.a_stopped_repair_is_done_again.ensures.finished (g.N.Placed.state c.args.left)
    (g.N.Placed.state done.0) mends)
    (λ rejected mends. through_loss c.a_stopped_repair_is_done_again.ensures.same
    c.a_stopped_repair_is_done_again.ensures.finished (g.N.Placed.state c.args.left)
    (g.N.Placed.state rejected.0) mends)
