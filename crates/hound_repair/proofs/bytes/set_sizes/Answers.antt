use Rattle.std.proofs.lemmas.Grind.{common_steps}
use Rattle.std.proofs.Common.{arith}
use Rattle.hound_repair.proofs.InPlace.{two_put}
use Rattle.hound_repair.proofs.bytes.set_sizes.Goals as goal

pub returns : goal.returns
returns c = grind (arith, common_steps, two_put)
