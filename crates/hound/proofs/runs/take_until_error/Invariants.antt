use Rattle.std.proofs.Common.{length, drop, ◌≤◌}
use Rattle.hound.specs.Run.{RunsUntil}
use Rattle.hound.proofs.Running.{Leads}
use Rattle.hound.proofs.runs.take_until_error.Given as goal

abbrev pub invariant-loop-i : goal.invariant-loop-i
invariant-loop-i g l = record {
  within : l.i ≤ length l.steps;
  leads : Leads (RunsUntil g.M.Placed) l.steps (drop l.i l.steps) l.fn.writer l.writer;
}
