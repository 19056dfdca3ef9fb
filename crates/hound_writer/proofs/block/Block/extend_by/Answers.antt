use Rattle.std.proofs.lemmas.Grind.{common_steps}
use Rattle.std.proofs.Common.{arith}
use Rattle.hound_writer.proofs.block.Block.extend_by.Goals as goal

pub returns : goal.returns
returns g c = grind (arith, common_steps)
