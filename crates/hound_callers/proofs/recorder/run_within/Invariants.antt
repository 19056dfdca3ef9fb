use Rattle.std.proofs.Common.{◌≡◌, ◌+◌, drop}
use Rattle.hound_callers.specs.Recorder.{run_within}
use Rattle.hound_callers.proofs.recorder.run_within.Given as goal

abbrev pub invariant-loop-i : goal.invariant-loop-i
invariant-loop-i l = run_within l.fn.blocks l.fn.most ≡ l.i + run_within (drop l.i l.blocks) l.left
