use Rattle.std.proofs.lemmas.Grind.{common_steps}
use Rattle.std.proofs.Common.{arith}
use Rattle.hound_number.proofs.Pieces.{taken_beyond}
use Rattle.hound_reader.proofs.item.SavingReader.fill.Goals as goal

pub returns-in-Some-2-clause-bytes : goal.returns-in-Some-2-clause-bytes
returns-in-Some-2-clause-bytes g c = grind (arith, common_steps, taken_beyond)
