use Rattle.std.proofs.Common.{◌≡◌, ◌+◌, ◌-◌, ◌≤◌, length, take, drop}
use Rattle.hound_medium.specs.{WhereTells}
use Rattle.hound_repair.specs.Repairing.{IsSame}
use Rattle.hound_repair.proofs.mend.part_at.Given as goal

abbrev pub invariant-loop-at : goal.invariant-loop-at
invariant-loop-at g l = record {
  within : l.at ≤ length l.buf;
  same : WhereTells g.S.Placed.tells (IsSame (g.S.Placed.state l.fn.source) (g.S.Placed.state l.source));
  place : WhereTells g.S.Placed.tells ((g.S.Placed.state l.source).place ≡ l.place + l.at);
  bytes : WhereTells g.S.Placed.tells
      (take l.at l.buf ≡ take l.at (drop l.place (g.S.Placed.state l.fn.source).contents));
}

abbrev pub decreases-loop-at : goal.decreases-loop-at
decreases-loop-at g l = length l.initial.buf - l.at
