use Rattle.std.proofs.Common.{◌≡◌, length, take, ◌≤◌}
use Rattle.hound.proofs.Running.{MarkedRun}
use Rattle.hound.proofs.runs.take_steps.Given as goal

abbrev pub invariant-loop-i : goal.invariant-loop-i
invariant-loop-i g l = record {
  size : length l.marks ≡ length l.fn.marks;
  within : l.i ≤ length l.steps;
  runs : MarkedRun g.M.Placed (take l.i l.steps) (take l.i l.marks) l.fn.writer l.writer;
}
