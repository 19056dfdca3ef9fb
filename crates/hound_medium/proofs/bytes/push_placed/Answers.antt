use Rattle.std.proofs.lemmas.Grind.{common_steps}
use Rattle.std.proofs.Common.{arith, get_or, append_assoc}
use Rattle.hound_medium.proofs.Overlays.{placed_more}
use Rattle.hound_medium.proofs.bytes.push_placed.Goals as goal

pub loop-i-preserved : goal.loop-i-preserved
loop-i-preserved c = grind (arith, common_steps, get_or, append_assoc, placed_more)
