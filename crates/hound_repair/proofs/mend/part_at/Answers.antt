use Rattle.std.proofs.lemmas.Grind.{common_steps}
use Rattle.std.proofs.Common.{arith}
use Rattle.hound_repair.proofs.Looking.{more_bytes}
use Rattle.hound_repair.proofs.mend.part_at.Goals as goal

pub loop-at-preserved : goal.loop-at-preserved
loop-at-preserved g c = grind (arith, common_steps, more_bytes)
