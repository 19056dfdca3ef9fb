use Rattle.std.proofs.Common.{◌-◌, ◌*◌, ◌≡◌, ◌≤◌, IsTrue, length}
use Rattle.hound_medium.specs.{PutsFirst}
use Rattle.hound_sample.specs.{joined_containers}
use Rattle.hound_writer.proofs.end.put_samples.Given as goal

abbrev pub invariant-loop-done : goal.invariant-loop-done
invariant-loop-done g l = record {
  within : l.done ≤ length l.samples;
  takes : IsTrue g.M.Placed.tells → PutsFirst g.M.Placed.keeps
      (joined_containers (λ s. g.S.Sample.container s l.bits l.width) l.samples)
      (l.width * l.done) (g.M.Placed.state l.fn.medium) (g.M.Placed.state l.medium);
  faults : IsTrue g.M.Placed.tells → (g.M.Placed.state l.medium).faults ≡ (g.M.Placed.state l.fn.medium).faults;
}

abbrev pub decreases-loop-done : goal.decreases-loop-done
decreases-loop-done g l = length l.samples - l.done
