-- What a caller does that performs a repair's requests itself.
use Rattle.std.specs.Prelude.{◌≡◌, ℕ, Bool, List}
use Rattle.hound.specs.{IsFoundAt, IsPartlyRepaired, IsRejectedFor, IsRepair, LeavesFor, MediumState, PutsNothing, Repair, RepairError, Repairs, Report, Task, looks_for_chunks, mends_for, one_more}
use Rattle.hound.specs.declared.RepairError.TheVariants as errors
use Rattle.hound.specs.declared.Report.TheVariants.{Failed}
use Rattle.hound_callers.specs.Recorder.{AreAllKept}

-- the faults after a request that was reported so
abbrev pub faults_by : Report → ℕ → ℕ
faults_by Failed faults = one_more faults
faults_by _ faults = faults

-- A file was found so, and all is done that the task does to such a file: what `repair` or `repair_to_end` does, if it
-- is theirs and no report was lost.
pub record IsRepairedBy (task : Task) (lost : List Bool) (found : Repair) (old new : MediumState) : Type 0 where
  pub len : ℕ
  pub start : ℕ
  pub is : IsFoundAt (looks_for_chunks task) old.contents found len start
  pub leaves : LeavesFor (mends_for task found.state) found start old new
  pub repairs : IsRepair task → AreAllKept lost → Repairs (looks_for_chunks task) old found new

-- A file isn't repaired: its bytes have this fault, and nothing was written; or a call failed, and the file is at most
-- partly mended.
abbrev pub IsNotRepairedBy : Task → List Bool → RepairError → MediumState → MediumState → Type 0
IsNotRepairedBy task lost (errors.Rejected why) old new = IsRejectedFor old.contents why × PutsNothing old new
IsNotRepairedBy task lost (errors.Failed failure) old new = IsPartlyRepaired task old new
    × (AreAllKept lost → new.faults ≡ one_more old.faults)
