use Rattle.std.proofs.Common.{length, take, ◌+◌, ◌-◌, ◌≤◌}
use Rattle.std.specs.Io.KnownBytes.{Appends}
use Rattle.hound_text.proofs.lines.write_text.Given as goal

abbrev pub invariant-loop-at : goal.invariant-loop-at
invariant-loop-at g l = record {
  within : l.at ≤ length l.bytes;
  written : Appends (g.O.Write.contents l.fn.output) (g.O.Write.contents l.output) (take l.at l.bytes);
}

-- each turn writes a byte or uses up a try
abbrev pub decreases-loop-at : goal.decreases-loop-at
decreases-loop-at g l = length l.bytes - l.at + l.tries
