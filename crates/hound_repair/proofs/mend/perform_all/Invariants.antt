use Rattle.std.proofs.Common.{◌-◌, drop, Result}
use Rattle.std.specs.declared.io.Error.{Error as IoFault}
use Rattle.hound_medium.specs.{MediumState, WhereTells}
use Rattle.hound_repair.specs.Steps.{PerformedOn, effects_of_task}
use Rattle.hound_repair.proofs.mend.perform_all.Given as goal

abbrev pub invariant-loop-effect : goal.invariant-loop-effect
invariant-loop-effect g l = record {
  leads : WhereTells g.M.Placed.tells ((end : MediumState) (result : Result (Unit {0}) IoFault)
      → PerformedOn g.M.Placed.keeps (drop l.number (effects_of_task l.task l.damage)) result
      (g.M.Placed.state l.medium) end
      → PerformedOn g.M.Placed.keeps (effects_of_task l.task l.damage) result (g.M.Placed.state l.fn.medium) end);
}

abbrev pub decreases-loop-effect : goal.decreases-loop-effect
decreases-loop-effect g l = 7 - l.number
