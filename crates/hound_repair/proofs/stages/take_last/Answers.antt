use Rattle.std.proofs.lemmas.Grind.{common_steps}
use Rattle.std.proofs.Common.{arith}
use Rattle.hound_repair.proofs.Stepping.{last_read}
use Rattle.hound_repair.proofs.stages.take_last.Goals as goal

pub returns-clause-leads : goal.returns-clause-leads
returns-clause-leads c = λ file size at is. c.after_data.ensures.at file size at.0
    (λ small. grind (arith, common_steps, last_read))
