-- A repair ends.
use Rattle.std.proofs.lemmas.Grind.{common_steps}
use Rattle.std.proofs.Common.{◌≡◌, ◌⊎◌, ℕ, ◌+◌, ◌/◌, ◌<◌, ◌≤◌, List, Ok, Err, arith}
use Rattle.hound_writer.specs.declared.effects.Action.{Action}
use Rattle.hound_writer.specs.declared.effects.Report.{Report}
use Rattle.hound_writer.specs.declared.effects.Report.TheVariants.{Done, Failed, Pending}
use Rattle.hound_repair.specs.Driving.{first_stage}
use Rattle.hound_repair.specs.Steps.{AsksNext, effects_left}
use Rattle.hound_repair.specs.declared.machine.RepairStep.TheVariants.{Asks}
use Rattle.hound_repair.specs.declared.machine.Repairing.{Repairing}
use Rattle.hound_repair.specs.declared.machine.FailedAction.{FailedAction}
use Rattle.hound_repair.specs.declared.machine.RepairError.TheVariants as errors
use Rattle.hound_repair.specs.declared.machine.Repairing.TheVariants as states
use Rattle.hound_repair.specs.declared.machine.Repairing.TheVariants.{Looks}
use Rattle.hound_repair.specs.declared.stages.Task.{Task}

pub nearer : (task : Task) (n : ℕ) (bytes : List ℕ) (old new : Repairing) (action : Action)
    → AsksNext task n bytes Done old new (Ok (Asks action)) → effects_left n new < effects_left n old
nearer task n bytes old new action given = grind (arith, common_steps)

pub as_many : (task : Task) (n : ℕ) (bytes : List ℕ) (old new : Repairing) (action : Action)
    → AsksNext task n bytes Pending old new (Ok (Asks action)) → effects_left n new ≡ effects_left n old
as_many task n bytes old new action given = grind (arith, common_steps)

pub ended : (task : Task) (n : ℕ) (bytes : List ℕ) (old new : Repairing) (action : Action)
    → AsksNext task n bytes Failed old new (Ok (Asks action)) → ⊥
ended task n bytes old new action given = grind (arith, common_steps)

pub failed : (task : Task) (n : ℕ) (bytes : List ℕ) (report : Report) (old new : Repairing) (failure : FailedAction)
    → AsksNext task n bytes report old new (Err (errors.Failed failure))
    → (report ≡ Failed) ⊎ (old ≡ states.Failed failure)
failed task n bytes report old new failure given = grind (arith, common_steps)

pub at_most : (n : ℕ) → effects_left n (Looks first_stage) ≤ n / 2 + 16
at_most n = omega arith
