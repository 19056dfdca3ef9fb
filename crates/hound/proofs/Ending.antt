-- A recorder's request ends.
use Rattle.std.proofs.lemmas.Grind.{common_steps}
use Rattle.std.proofs.Common.{◌≡◌, ℕ, ◌<◌, ◌≤◌, Bool, true, false, Some, Result, Ok, refl, arith}
use Rattle.hound_writer.specs.{Advances, HasEnded, ThenGoesOn}
use Rattle.hound_writer.specs.declared.effects.Action.{Action}
use Rattle.hound_writer.specs.declared.effects.Report.{Report}
use Rattle.hound_writer.specs.declared.effects.Report.TheVariants.{Pending, Done, Failed}
use Rattle.hound_writer.specs.declared.recorder.Phase.{Phase}
use Rattle.hound_writer.specs.declared.recorder.Recorder.{Recorder}
use Rattle.hound_writer.specs.declared.recorder.RecorderError.{RecorderError}
use Rattle.hound.specs.Ending.{actions_left, cuts_left, left_in}

by_end : (ok : Bool) (old mid new : Recorder) (action : Action) (outcome : Result (Unit {0}) RecorderError)
    → HasEnded ok old mid outcome → ThenGoesOn outcome mid new (Ok (Some action))
    → actions_left new < actions_left old
by_end ok old mid new action outcome ended given = grind (arith, common_steps)

pub nearer : (report : Report) (old new : Recorder) (action : Action) → (report ≡ Pending → ⊥)
    → Advances report old new (Ok (Some action)) → actions_left new < actions_left old
nearer Pending old new action reported on = absurd (reported refl)
nearer Done old new action reported (mid, outcome, ended, on) = by_end true old mid new action outcome ended on
nearer Failed old new action reported (mid, outcome, ended, on) = by_end false old mid new action outcome ended on

-- without a report it is requested again, or the block is, once no checkpoint comes before it
pub not_farther : (old new : Recorder) (action : Action) → Advances Pending old new (Ok (Some action))
    → actions_left new ≤ actions_left old
not_farther old new action given = grind (arith, common_steps)

-- no phase leaves more than eleven
few_left : (phase : Phase) (rest : Bool) (number : ℕ) → left_in phase (cuts_left rest) number ≤ 11
few_left phase rest number = grind (arith, common_steps)

pub at_most : (r : Recorder) → actions_left r ≤ 11
at_most r = few_left r.phase r.has_rest r.number
