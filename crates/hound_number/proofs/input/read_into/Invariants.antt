use Rattle.std.proofs.Common.{◌≤◌, ◌-◌, length, take}
use Rattle.std.specs.Io.KnownBytes.{Consumes}
use Rattle.hound_number.specs.Io.{NoneFailed}
use Rattle.hound_number.proofs.input.read_into.Given as goal

abbrev pub invariant-loop-at : goal.invariant-loop-at
invariant-loop-at g l = record {
  within : l.at ≤ length l.buf;
  failures : NoneFailed (g.R.Input.account l.initial.reader) (g.R.Input.account l.reader);
  taken : Consumes (g.R.Input.left l.initial.reader) (g.R.Input.left l.reader) (take l.at l.buf);
}

abbrev pub decreases-loop-at : goal.decreases-loop-at
decreases-loop-at g l = length l.initial.buf - l.at
