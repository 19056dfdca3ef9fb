use Rattle.std.proofs.Common.{arith}
use Rattle.std.proofs.lemmas.Grind.{common_steps}
use Rattle.hound_medium.proofs.Reading.{get_consumes}
use Rattle.hound_walk.proofs.chunks.SourceReaderInput.read_some.Goals as goal

pub returns-clause-bytes : goal.returns-clause-bytes
returns-clause-bytes g c = grind (arith, common_steps, get_consumes)
