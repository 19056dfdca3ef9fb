use Rattle.std.proofs.lemmas.Grind.{common_steps}
use Rattle.std.proofs.Common.{arith, get_or}
use Rattle.hound_medium.proofs.Overlays.{overlay_more}
use Rattle.hound_medium.proofs.bytes.replay.Goals as goal

pub loop-at-preserved : goal.loop-at-preserved
loop-at-preserved c = grind (arith, common_steps, get_or, overlay_more)
