use Rattle.std.proofs.lemmas.Grind.{common_steps}
use Rattle.std.proofs.Common.{arith}
use Rattle.hound_repair.proofs.Stepping.{no_id3}
use Rattle.hound_repair.proofs.stages.at_end.Goals as goal

pub returns-clause-leads : goal.returns-clause-leads
returns-clause-leads c = grind (arith, common_steps, no_id3)
