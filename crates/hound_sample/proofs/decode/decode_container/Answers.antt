use Rattle.std.proofs.lemmas.Grind.{common_steps}
use Rattle.std.proofs.Common.{arith}
use Rattle.hound_sample.proofs.Reading.{takes_part}
use Rattle.hound_sample.proofs.decode.decode_container.Goals as goal

pub returns-in-None : goal.returns-in-None
returns-in-None g c fault = grind (arith, common_steps, takes_part)
