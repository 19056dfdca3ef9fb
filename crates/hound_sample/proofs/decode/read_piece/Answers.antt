use Rattle.std.proofs.lemmas.Grind.{common_steps}
use Rattle.std.proofs.Common.{arith}
use Rattle.hound_number.proofs.Pieces.{taken_beyond}
use Rattle.hound_sample.proofs.decode.read_piece.Goals as goal

pub loop-at-preserved : goal.loop-at-preserved
loop-at-preserved g c = grind (arith, common_steps, taken_beyond)
