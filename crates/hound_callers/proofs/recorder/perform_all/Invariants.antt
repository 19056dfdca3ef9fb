use Rattle.std.proofs.Common.{◌≡◌, ◌≤◌, ◌+◌, ◌*◌, ◌-◌, List, Option, Bool, length}
use Rattle.std.specs.Prelude.{⊤}
use Rattle.hound.specs.{Begun, HasData, Known, Log, Repeats, WavSpecEx, WhereKeeps, WhereTells, actions_left}
use Rattle.hound.specs.declared.Phase.TheVariants.{Saving}
use Rattle.hound.specs.declared.Report.TheVariants.{Failed}
use Rattle.hound_callers.specs.Recorder.{CountsFaults, IsDirected, UnlessFault}
use Rattle.hound_callers.proofs.Faultless.{FaultlessAt}
use Rattle.hound_callers.proofs.Driving.{HasAction, IsWithin, step_of}
use Rattle.hound_callers.proofs.Repeating.{IsUnderWay, IsUnderWayBy}
use Rattle.hound_callers.proofs.Mending.{PerformedAt}
use Rattle.hound_callers.proofs.recorder.perform_all.Given as goal

abbrev pub invariant-loop-action : goal.invariant-loop-action
invariant-loop-action g l =
    let M = g.M.Placed in
    record {
      within : (over : Option Bool) × IsWithin l.fn.recorder l.report l.recorder over;
      action : HasAction l.report (λ _. ⊤) l.recorder;
      made : l.made ≤ length l.lost;
      directed : WhereKeeps M.tells M.keeps ((s : WavSpecEx) (file : Begun) (known : List Known)
          → IsDirected s file known l.fn.recorder (M.state l.fn.medium)
          → IsUnderWay s file known l.fn.recorder l.block l.report l.recorder (M.state l.medium));
      performed : WhereKeeps M.tells M.keeps ((start : Log) → Repeats start.state (M.state l.fn.medium)
          → l.fn.recorder.phase ≡ Saving → HasData l.fn.recorder l.fn.recorder.data_length
          → IsUnderWayBy (λ m over r. PerformedAt l.fn.recorder start m over r) l.fn.recorder l.block l.report
          l.recorder
          (M.state l.medium));
      faults : WhereTells M.tells (CountsFaults (M.state l.fn.medium) (M.state l.medium));
      faultless : HasData l.fn.recorder l.fn.recorder.data_length
          → UnlessFault M.tells l.lost (M.state l.fn.medium) (M.state l.medium)
          ((l.report ≡ Failed → ⊥) × ((over : Option Bool) × IsWithin l.fn.recorder l.report l.recorder over
          × FaultlessAt over l.recorder));
    }

abbrev pub decreases-loop-action : goal.decreases-loop-action
decreases-loop-action g l = 2 * actions_left l.recorder + (1 - step_of l.report) + 2 * (length l.lost - l.made)
