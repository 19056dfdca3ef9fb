use Rattle.std.proofs.Common.{◌-◌}
use Rattle.hound_callers.proofs.recorder.+begin_from.Given as goal

abbrev pub decreases-begin_from : goal.decreases-begin_from
decreases-begin_from g l = 6 - l.number
