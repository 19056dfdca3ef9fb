use Rattle.std.proofs.Common.{◌≡◌, ℕ, ◌*◌, List, refl, sym, subst, ap, ◌∙◌}
use Rattle.hound.specs.{PartlyMended, RepairState, WavSpecEx, frame_length, found_length, frames_found, frames_held, repair_of, shown_of}
use Rattle.hound.specs.declared.RepairState.TheVariants.{AllCounted, CutOff, HasChunksAfterData, Whole}
use Rattle.hound_callers.proofs.callers.a_repair_by_hand_is_done_again.Goals as goal

-- where no chunks follow, the frames that are held were found
held_found : (state : RepairState) (s : WavSpecEx) (len shown n : ℕ) → (state ≡ HasChunksAfterData → ⊥)
    → frames_found state s len shown n ≡ frames_held s shown n
held_found Whole s len shown n apart = refl
held_found CutOff s len shown n apart = refl
held_found AllCounted s len shown n apart = refl
held_found HasChunksAfterData s len shown n apart = absurd (apart refl)

pub returns : goal.returns
returns c looks again d old mid result next new other at performed some same repairs alone =
    let (partly, done) = c.effects_mend.ensures.leaves looks d old mid result at performed in
    let start = d.head.data_start in
    let s = d.head.spec_ex in
    let length_is : d.sizes.data_length ≡ found_length (repair_of d) = at.sound.sizes.length_is
    ∙ ap (λ k. k * frame_length s) (sym (held_found d.state s d.head.data_length (shown_of d.head) d.held at.apart)) in
    let left : PartlyMended start (found_length (repair_of d)) old.state.contents next.contents =
    subst (λ (x : ℕ × List ℕ). PartlyMended start x.0 old.state.contents x.1) (λ i. (length_is i, sym same i)) partly in
    c.a_stopped_repair_is_done_again.ensures.same looks again old.state.contents next new (repair_of d) other
    d.head.data_length
    start at.found at.apart some left repairs alone
