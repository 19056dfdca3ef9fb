use Rattle.std.proofs.lemmas.Grind.{common_steps}
use Rattle.std.proofs.Common.{arith}
use Rattle.hound_reader.proofs.BlockLemmas.{each_by_reason}
use Rattle.hound_reader.proofs.item.read_many.Goals as goal

pub returns-in-Err-clause-answers : goal.returns-in-Err-clause-answers
returns-in-Err-clause-answers g c fault = grind (arith, common_steps, each_by_reason)
