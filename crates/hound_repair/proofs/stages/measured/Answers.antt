use Rattle.std.proofs.lemmas.Result.{err_from_is_err_and}
use Rattle.std.proofs.lemmas.Grind.{common_steps}
use Rattle.std.proofs.Common.{◌<◌, ◌≤◌, ◌^◌, subst, arith, rules}
use Rattle.hound_writer.proofs.Heads.{head_inside}
use Rattle.hound_repair.specs.Repairing.{shown_of}
use Rattle.hound_repair.proofs.Measuring.{not_written, written}
use Rattle.hound_repair.proofs.Stepping.{counts_serve, sizes_rejected}
use Rattle.hound_repair.proofs.stages.measured.Goals as goal

pub returns-then-not-is_pair-clause-measures : goal.returns-then-not-is_pair-clause-measures
returns-then-not-is_pair-clause-measures c = grind (arith, common_steps, not_written)

pub returns-clause-measures : goal.returns-clause-measures
returns-clause-measures c = λ file size head shown. let h = c.args.head in
    let s = h.spec_ex in
    let small : h.data_length < 2 ^ 32 = search rules in
    let few : shown_of h ≤ 2 ^ 32 = subst (λ k. k ≤ 2 ^ 32) c.shown.ensures.is c.shown.ensures.small in
    let serves = counts_serve s h c.args.size file c.requires.sound.0 small c.requires.sound.1.0 size
    (head_inside file s h.data_length h.data_start head) (omega arith) shown few in
    grind (arith, common_steps, serves, written)

pub returns-in_err-sizes-clause-measures : goal.returns-in_err-sizes-clause-measures
returns-in_err-sizes-clause-measures c =
    grind (arith, common_steps, err_from_is_err_and, head_inside, counts_serve, sizes_rejected)
