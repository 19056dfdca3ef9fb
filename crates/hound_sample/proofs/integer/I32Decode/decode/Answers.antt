use Rattle.std.proofs.lemmas.Grind.{common_steps}
use Rattle.std.proofs.Common.{arith}
use Rattle.hound_sample.proofs.integer.I32Decode.decode.Goals as goal

pub returns-in-8 : goal.returns-in-8
returns-in-8 c = grind (arith, common_steps)
