use Rattle.std.proofs.lemmas.Grind.{common_steps}
use Rattle.std.proofs.Common.{arith, length-drop}
use Rattle.hound_writer.proofs.Heads.{head_inside}
use Rattle.hound_repair.proofs.Stepping.{none_counted}
use Rattle.hound_repair.proofs.stages.after_head.Goals as goal

pub returns-clause-at : goal.returns-clause-at
returns-clause-at c = λ file size head. c.after_data.ensures.at file size head
    (λ small. grind (arith, common_steps, length-drop, head_inside, none_counted))
