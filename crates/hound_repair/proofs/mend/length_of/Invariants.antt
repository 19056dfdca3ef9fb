use Rattle.std.proofs.Common.{◌≡◌, ◌-◌, ◌≤◌, ◌^◌, ◌⊎◌, length}
use Rattle.hound_medium.specs.{WhereTells}
use Rattle.hound_repair.specs.Repairing.{IsSame}
use Rattle.hound_repair.proofs.mend.length_of.Given as goal

abbrev pub invariant-loop-low : goal.invariant-loop-low
invariant-loop-low g l = record {
  order : l.low ≤ l.high;
  few : l.high ≤ 2 ^ 33;
  same : WhereTells g.S.Placed.tells (IsSame (g.S.Placed.state l.fn.source) (g.S.Placed.state l.source));
  inside : WhereTells g.S.Placed.tells (l.low ≤ length (g.S.Placed.state l.fn.source).contents);
  above : WhereTells g.S.Placed.tells ((length (g.S.Placed.state l.fn.source).contents ≤ l.high) ⊎ (l.high ≡ 2 ^ 33));
}

abbrev pub decreases-loop-low : goal.decreases-loop-low
decreases-loop-low g l = l.high - l.low
