use Rattle.std.proofs.lemmas.Grind.{common_steps}
use Rattle.std.proofs.Common.{arith}
use Rattle.hound_slices.proofs.Puts.{put, put_zero}
use Rattle.hound_slices.proofs.writing.write_data_at.Goals as goal

pub returns-then-data_length-eq1 : goal.returns-then-data_length-eq1
returns-then-data_length-eq1 g c = grind (arith, common_steps, put_zero, put)
