use Rattle.std.proofs.lemmas.Grind.{common_steps}
use Rattle.std.proofs.Common.{arith}
use Rattle.hound_repair.proofs.Stepping.{found_followed, tag_decides}
use Rattle.hound_repair.proofs.stages.take_tag.Goals as goal

pub returns-then-eq-clause-leads : goal.returns-then-eq-clause-leads
returns-then-eq-clause-leads c = grind (arith, common_steps, found_followed, tag_decides)

pub returns-then-eq-clause-nearer : goal.returns-then-eq-clause-nearer
returns-then-eq-clause-nearer c = λ n left some. c.found_as.ensures.nearer n left

pub returns-clause-leads : goal.returns-clause-leads
returns-clause-leads c = grind (arith, common_steps, tag_decides)
