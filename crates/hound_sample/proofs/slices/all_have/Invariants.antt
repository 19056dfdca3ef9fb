use Rattle.std.proofs.Common.{◌≡◌, is_ok, take}
use Rattle.hound_sample.specs.Container.{all_containers}
use Rattle.hound_sample.proofs.slices.all_have.Given as goal

abbrev pub invariant-loop-sample : goal.invariant-loop-sample
invariant-loop-sample g l =
    l.all ≡ is_ok (all_containers (λ s. g.S.Sample.container s l.bits l.width) (take l.sample-index l.samples))
