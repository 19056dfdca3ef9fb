use Rattle.std.proofs.Common.{length, drop, ◌≤◌}
use Rattle.hound.specs.declared.session.Begin.TheVariants.{Append}
use Rattle.hound.specs.Run.{RunsOn}
use Rattle.hound.proofs.Running.{Leads}
use Rattle.hound.proofs.runs.append_sessions.Given as goal

abbrev pub invariant-loop-i : goal.invariant-loop-i
invariant-loop-i g l = record {
  within : l.i ≤ length l.sessions;
  leads : Leads (RunsOn g.M.Placed Append) l.sessions (drop l.i l.sessions) l.fn.medium l.medium;
}
