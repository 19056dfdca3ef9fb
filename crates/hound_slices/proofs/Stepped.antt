-- What a step of a repairer is, whatever its parts are computed from.
use Rattle.std.proofs.Common.{◌≡◌, ℕ, List, Result, subst, sym}
use Rattle.hound_repair.specs.{AsksNext}
use Rattle.hound_repair.specs.declared.machine.RepairError.{RepairError}
use Rattle.hound_repair.specs.declared.machine.RepairStep.{RepairStep}
use Rattle.hound_repair.specs.declared.machine.Repairing.{Repairing}
use Rattle.hound_repair.specs.declared.stages.Task.{Task}
use Rattle.hound_writer.specs.declared.effects.Report.{Report}
use Rattle.hound_slices.specs.Repairers.{GivesStep}
use Rattle.hound_slices.specs.declared.error.CallError.{CallError}
use Rattle.hound_slices.specs.declared.repairer.HoundRepairer.{HoundRepairer}
use Rattle.hound_slices.specs.declared.spec.HoundRepair.{HoundRepair}

pub step_is : (n : ℕ) (task other : Task) (bytes read : List ℕ) (report said : Report)
    (old was new now : Repairing) (step : Result RepairStep RepairError)
    → task ≡ other → bytes ≡ read → report ≡ said → old ≡ was → new ≡ now
    → AsksNext task n bytes report old new step → AsksNext other n read said was now step
step_is n task other bytes read report said old was new now step t b r o w asks =
    subst (λ x. AsksNext x n read said was now step) t
    (subst (λ x. AsksNext task n x said was now step) b (subst (λ x. AsksNext task n bytes x was now step) r
    (subst (λ x. AsksNext task n bytes report x now step) o
    (subst (λ x. AsksNext task n bytes report old x step) w asks))))

pub gives_for : (old new : HoundRepairer) (was now : HoundRepair)
    (step other : Result RepairStep RepairError) (outcome : Result ℕ CallError) → step ≡ other
    → GivesStep old new was now other outcome → GivesStep old new was now step outcome
gives_for old new was now step other outcome is gives =
    subst (λ x. GivesStep old new was now x outcome) (sym is) gives
