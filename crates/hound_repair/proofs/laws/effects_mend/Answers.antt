use Rattle.std.proofs.Common.{true, ◌-◌, ◌<◌, ◌^◌, arith, subst, sym, refl}
use Rattle.hound_writer.proofs.Heads.{head_beyond, head_inside}
use Rattle.hound_repair.specs.Steps.{PartlyMended, PerformedOn, mending, mending_effects}
use Rattle.hound_repair.specs.Held.{held}
use Rattle.hound_repair.specs.Repairing.{repair_of}
use Rattle.hound_repair.proofs.Mending.{length_is}
use Rattle.hound_repair.proofs.RightSizes.{length_fits}
use Rattle.hound_repair.proofs.Performing.{allowed, mends, on_log, spans}
use Rattle.hound_repair.proofs.Lost.{first_sector, mending_is_safe, same_sector, survives}
use Rattle.hound_repair.proofs.laws.effects_mend.Goals as goal

pub returns-clause-leaves : goal.returns-clause-leaves
returns-clause-leaves c = λ looks d old new result at performed. let start = d.head.data_start in
    let n = d.sizes.data_length in
    let c = old.state.contents in
    mends true start n c
    (head_beyond c d.head.spec_ex d.head.data_length start at.found.head)
    (head_inside c d.head.spec_ex d.head.data_length start at.found.head)
    old.small
    (subst (λ k. k < 2 ^ 32) (sym (length_is d at.sound at.apart))
    (length_fits looks c (repair_of d) d.head.data_length start at.found at.apart))
    result old.state new.state refl
    (subst (λ h. PerformedOn true (mending_effects start n h) result old.state new.state) at.held_is
    (on_log (mending d) result old new performed))

pub returns-clause-moments : goal.returns-clause-moments
returns-clause-moments c = λ looks d old new result at performed. let start = d.head.data_start in
    let n = d.sizes.data_length in
    let c = old.state.contents in
    spans (PartlyMended start n c) (mending_effects start n (held start c)) result old.state new.state
    (allowed true start n c (head_beyond c d.head.spec_ex d.head.data_length start at.found.head)
    (head_inside c d.head.spec_ex d.head.data_length start at.found.head)
    old.small
    (subst (λ k. k < 2 ^ 32) (sym (length_is d at.sound at.apart))
    (length_fits looks c (repair_of d) d.head.data_length start at.found at.apart)))
    old.replays
    (subst (λ h. PerformedOn true (mending_effects start n h) result old.state new.state) at.held_is
    (on_log (mending d) result old new performed))

pub returns-clause-lost : goal.returns-clause-lost
returns-clause-lost c = λ looks d old new result sector left at settled wide one performed lost.
    let start = d.head.data_start in
    let n = d.sizes.data_length in
    let c = old.state.contents in
    let beyond = head_beyond c d.head.spec_ex d.head.data_length start at.found.head in
    let inside = head_inside c d.head.spec_ex d.head.data_length start at.found.head in
    survives sector left (PartlyMended start n c) (mending_effects start n (held start c)) result old.state new.state
    (allowed true start n c beyond inside old.small (subst (λ k. k < 2 ^ 32) (sym (length_is d at.sound at.apart))
    (length_fits looks c (repair_of d) d.head.data_length start at.found at.apart)))
    (mending_is_safe sector left start n c beyond inside
    (λ i few. same_sector (start - 4) (start - 1) i sector (omega (arith, wide)) (omega (arith, beyond, few)) one)
    (λ i few. first_sector i sector few wide))
    old.replays settled
    (subst (λ h. PerformedOn true (mending_effects start n h) result old.state new.state) at.held_is
    (on_log (mending d) result old new performed))
    lost
