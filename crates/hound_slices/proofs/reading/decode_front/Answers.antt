use Rattle.std.proofs.lemmas.Grind.{common_steps}
use Rattle.std.proofs.Common.{arith}
use Rattle.std.proofs.lemmas.List.{drop_at, length-take-le, take-take, take_at}
use Rattle.hound_sample.proofs.Containers.{containers_front}
use Rattle.hound_slices.proofs.reading.decode_front.Goals as goal

pub returns : goal.returns
returns g c = grind (arith, common_steps, take_at, length-take-le, containers_front, take-take, drop_at)
