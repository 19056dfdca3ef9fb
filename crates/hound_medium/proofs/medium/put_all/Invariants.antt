use Rattle.std.proofs.Common.{length, ◌-◌, IsTrue, ◌≡◌, ◌≤◌}
use Rattle.hound_medium.specs.State.{PutsFirst}
use Rattle.hound_medium.proofs.medium.put_all.Given as goal

abbrev pub invariant-loop-at : goal.invariant-loop-at
invariant-loop-at g l = record {
  within : l.at ≤ length l.bytes;
  takes : IsTrue g.M.Placed.tells → PutsFirst g.M.Placed.keeps l.bytes l.at (g.M.Placed.state l.fn.medium)
      (g.M.Placed.state l.medium);
  faults : IsTrue g.M.Placed.tells → (g.M.Placed.state l.medium).faults ≡ (g.M.Placed.state l.fn.medium).faults;
}

abbrev pub decreases-loop-at : goal.decreases-loop-at
decreases-loop-at g l = length l.bytes - l.at
