use Rattle.std.proofs.Common.{◌≡◌, ◌+◌, ◌-◌, ◌*◌, ◌≤◌, Ok, length, take}
use Rattle.hound.specs.{Action, DoesFor, IsSoundRepairing, IsUnderRepair, MediumState, WhereTells, effects_left}
use Rattle.hound.specs.declared.RepairStep.TheVariants.{Asks}
use Rattle.hound_callers.specs.Recorder.{AreAllKept}
use Rattle.hound_callers.specs.Repairer.{faults_by}
use Rattle.hound_callers.proofs.Driving.{step_of}
use Rattle.hound_callers.proofs.repairer.repair_by_requests.Given as goal

abbrev pub invariant-requests : goal.invariant-requests
invariant-requests g l =
    let M = g.M.Placed in
    record {
      sound : IsSoundRepairing l.state;
      within : l.count ≤ 40;
      waits : WhereTells M.tells ((mid : MediumState) × (action : Action)
          × IsUnderRepair l.task l.length (M.state l.fn.medium) l.state (Ok (Asks action)) mid
          × DoesFor M.keeps action (take l.count l.buf) l.report mid (M.state l.medium));
      faults : WhereTells M.tells (AreAllKept l.fn.lost → AreAllKept l.lost
          × ((M.state l.medium).faults ≡ faults_by l.report (M.state l.fn.medium).faults));
    }

abbrev pub decreases-requests : goal.decreases-requests
decreases-requests g l = 2 * effects_left l.length l.state + (1 - step_of l.report) + 2 * length l.lost
