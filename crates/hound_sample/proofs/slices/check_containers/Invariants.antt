use Rattle.std.proofs.Common.{IsOk, take}
use Rattle.hound_sample.specs.Container.{all_containers}
use Rattle.hound_sample.proofs.slices.check_containers.Given as goal

abbrev pub invariant-loop-sample : goal.invariant-loop-sample
invariant-loop-sample g l =
    IsOk (all_containers (λ s. g.S.Sample.container s l.bits l.width) (take l.sample-index l.samples))
