-- What a loss of power leaves counts all samples that calls accepted, also where they go on.
use Rattle.std.proofs.lemmas.Grind.{common_steps}
use Rattle.std.proofs.Common.{◌≡◌, ℕ, ◌-◌, ◌/◌, ◌≤◌, List, [], ◌∷◌, ◌++◌, length, Err, IsTrue, refl, sym, subst, arith}
use Rattle.hound_spec.specs.declared.error.Error.TheVariants.{TooWide}
use Rattle.hound_spec.specs.declared.spec.WavSpecEx.{WavSpecEx}
use Rattle.hound_medium.specs.{overlay, MediumState}
use Rattle.hound_durable.specs.{Ascends, SurvivesLoss}
use Rattle.hound_sample.specs.{too_wide}
use Rattle.hound_walk.specs.{Head}
use Rattle.hound_writer.specs.{Ghosts, Begun, Call, Counts, Known, field, found_in, start_of, write}
use Rattle.hound_writer.proofs.Accepting.{type_rejects}
use Rattle.hound_writer.proofs.Recording.{call_at, lead_more}
use Rattle.hound.specs.Headline.{Kept, Promises, accepted_by_all, begins_at}
use Rattle.hound.proofs.Calling.{went}
use Rattle.hound.proofs.Keeping.{first_of, keeps_promises}

module _ {W : Type 0} (kind : Ghosts W) (modelled : IsTrue kind.tells) (kept : IsTrue kind.keeps)
    (replays : (m : W) → (kind.state m).contents ≡ overlay (kind.state m).start (kind.state m).past)
    (s : WavSpecEx) (file : Begun) (known : List Known) (medium : W)
    (is_kept : Kept kind s file known medium) where
  abbrev m : MediumState
  m = kind.state medium

  abbrev calls : List Call
  calls = is_kept.left.recorded.calls

  -- one call more, which is rejected and so leaves all as it is, began at the end
  abbrev rejected : Call
  rejected = call_at kind (write (Err too_wide)) (Err TooWide) is_kept.left.last

  still_promised : Promises s (start_of s file) (found_in file) (calls ++ rejected ∷ []) m
  still_promised =
      let left = is_kept.left in
      let r = left.recorded in
      let is_first = first_of kind s file r.first r.opens in
      let counts = (went kind modelled calls r.first left.last r.lead).counts
      (is_first.whole modelled) (is_first.counts modelled) in
      subst (λ (w : W). Promises s (start_of s file) (found_in file) (calls ++ rejected ∷ []) (kind.state w))
      (sym left.is)
      (keeps_promises kind s file (calls ++ rejected ∷ []) r.first left.last is_first
      (lead_more kind calls (write (Err too_wide)) (Err TooWide) r.first left.last left.last r.lead
      (type_rejects kind left.last too_wide (λ _ _. counts) (λ _ _. replays left.last.medium))) modelled kept replays)

  begins_same : (list : List Call) → begins_at (list ++ rejected ∷ []) m.past ≡ begins_at list m.past
  begins_same list = grind (arith, common_steps)

  -- the medium was flushed up to f and written at ascending places since
  pub counted_after_loss : (f : ℕ) → f ≤ length m.past → Ascends m.past f (length m.past)
      → begins_at calls m.past ≤ f → (sector : ℕ) (contents : List ℕ) → 1 ≤ sector
      → (start_of s file - 4) / sector ≡ (start_of s file - 1) / sector
      → SurvivesLoss sector m.start m.past f (length m.past) contents
      → Counts s (start_of s file) (found_in file ++ accepted_by_all calls) contents
  counted_after_loss f within ascends begun sector contents some one lost =
      (still_promised.after_loss calls [] rejected f (length m.past) sector contents refl
      (omega (arith, begun, begins_same calls)) within
      (omega (arith, begins_same [])) (omega arith) ascends some one lost).0

  -- and its head is there
  pub head_after_loss : (f : ℕ) → f ≤ length m.past → Ascends m.past f (length m.past)
      → begins_at calls m.past ≤ f → (sector : ℕ) (contents : List ℕ) → 1 ≤ sector
      → (start_of s file - 4) / sector ≡ (start_of s file - 1) / sector
      → SurvivesLoss sector m.start m.past f (length m.past) contents
      → Head contents s (field (start_of s file - 4) contents) (start_of s file)
  head_after_loss f within ascends begun sector contents some one lost =
      (still_promised.after_loss calls [] rejected f (length m.past) sector contents refl
      (omega (arith, begun, begins_same calls)) within
      (omega (arith, begins_same [])) (omega arith) ascends some one lost).2
