use Rattle.std.proofs.lemmas.Grind.{common_steps}
use Rattle.std.proofs.Common.{arith}
use Rattle.std.proofs.lemmas.List.{take_at}
use Rattle.hound_medium.proofs.Overlays.{overlay_resized}
use Rattle.hound_medium.proofs.bytes.put_anywhere.Goals as goal

pub returns-clause-ok : goal.returns-clause-ok
returns-clause-ok c = grind (arith, common_steps, take_at, overlay_resized)
