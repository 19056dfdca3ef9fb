use Rattle.std.proofs.Common.{◌≡◌, ◌*◌, length, take}
use Rattle.hound_sample.specs.Container.{joined_containers}
use Rattle.hound_sample.proofs.slices.store_each.Given as goal

abbrev pub invariant-loop-sample : goal.invariant-loop-sample
invariant-loop-sample g l = record {
  end : l.end ≡ l.width * l.sample-index;
  size : length l.bytes ≡ length l.fn.bytes;
  stored : take l.end l.bytes ≡ joined_containers (λ s. g.S.Sample.container s l.bits l.width)
      (take l.sample-index l.samples);
}
