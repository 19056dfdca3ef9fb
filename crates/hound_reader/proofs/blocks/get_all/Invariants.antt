use Rattle.std.proofs.Common.{◌≡◌, ◌≤◌, ◌-◌, IsTrue, length, take}
use Rattle.hound_walk.specs.{unread}
use Rattle.hound_reader.specs.Blocks.{PassesBytes}
use Rattle.hound_reader.proofs.blocks.get_all.Given as goal

abbrev pub invariant-loop-at : goal.invariant-loop-at
invariant-loop-at g l = record {
  within : l.at ≤ length l.buf;
  passes : IsTrue g.R.Placed.tells
      → PassesBytes l.at (g.R.Placed.state l.fn.reader.reader) (g.R.Placed.state l.reader.reader);
  bytes : IsTrue g.R.Placed.tells → take l.at l.buf ≡ take l.at (unread (g.R.Placed.state l.fn.reader.reader));
  faults : IsTrue g.R.Placed.tells
      → (g.R.Placed.state l.reader.reader).faults ≡ (g.R.Placed.state l.fn.reader.reader).faults;
}

abbrev pub decreases-loop-at : goal.decreases-loop-at
decreases-loop-at g l = length l.initial.buf - l.at
