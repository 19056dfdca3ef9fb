use Rattle.std.proofs.lemmas.Grind.{common_steps}
use Rattle.std.proofs.Common.{arith, slice_range}
use Rattle.std.proofs.lemmas.List.{map-append, take_more_set}
use Rattle.hound_sample.proofs.Containers.{containers_append}
use Rattle.hound_sample.proofs.decode.decode_each.Goals as goal

pub loop-i-preserved : goal.loop-i-preserved
loop-i-preserved g c = grind (arith, common_steps, slice_range, take_more_set, containers_append, map-append)
