-- What repairing does.
use Rattle.std.specs.Prelude.{◌≡◌, ◌⊎◌, ℕ, ◌/◌, Bool, ◌==◌, if◌then◌else◌, ◌<◌, ◌≤◌, List, length, take, true, Result, Ok, Err}
use Rattle.hound_walk.specs.declared.cause.Cause.TheVariants.{Unsupported}
use Rattle.hound_spec.specs.declared.spec.WavSpecEx.{WavSpecEx}
use Rattle.hound_walk.specs.{Head, Rejected}
use Rattle.hound_writer.specs.{by_bytes, too_long}
use Rattle.hound_repair.specs.{HasUnfitHead, frame_length, IsFoundAt, LacksRoom, RepairsBytes}
use Rattle.hound_repair.specs.declared.look.Repair.{Repair}
use Rattle.hound_writer.specs.declared.resuming.RepairState.{RepairState}
use Rattle.hound_writer.specs.declared.resuming.RepairState.TheVariants.{Whole, CutOff, HasChunksAfterData, AllCounted}
use Rattle.hound_slices.specs.Writing.{IsExplicit, spec_from_c}
use Rattle.hound_slices.specs.declared.error.CallError.{CallError}
use Rattle.hound_slices.specs.declared.error.CallError.TheVariants as errors
use Rattle.hound_slices.specs.declared.error.CallError.TheVariants.{NotWritable, TooLong, NoRoom}
use Rattle.hound_slices.specs.declared.spec.HoundRepair.{HoundRepair}

-- the number of how a file was found
abbrev pub state_code : RepairState → ℕ
state_code Whole = 0
state_code CutOff = 1
state_code HasChunksAfterData = 2
state_code AllCounted = 3

-- how a file was found, by that number
abbrev pub state_of_code : ℕ → RepairState
state_of_code number =
    if number == 0 then Whole else if number == 1 then CutOff
    else if number == 3 then AllCounted else HasChunksAfterData

-- what was found, as C has it
pub record IsReported (found : Repair) (c : HoundRepair) : Type 0 where
  pub spec : spec_from_c c.spec ≡ found.spec_ex
  pub explicit : IsExplicit c.spec
  pub frames : c.frames ≡ found.frames
  pub left_over : c.left_over ≡ found.left_over
  pub state : c.state ≡ state_code found.state

-- the head of a file, how many whole frames it counts, and its length, as C has them
abbrev pub HasHeadOf : List ℕ → HoundRepair → Type 0
HasHeadOf bytes c = (s : WavSpecEx) × Head bytes s c.data_length c.data_start × (c.length ≡ length bytes)
    × (c.counted ≡ c.data_length / frame_length s)

-- what was found in a file, looked at as a whole, as C has it
abbrev pub FindsInFile : List ℕ → HoundRepair → Type 0
FindsInFile bytes c = (found : Repair) × IsReported found c × HasHeadOf bytes c
    × ((len : ℕ) × (start : ℕ) × IsFoundAt true bytes found len start)

-- why a file isn't looked at: it has no head for this cause, or it has one of samples that aren't written, or whose
-- sizes don't fit
abbrev pub IsDamageError : List ℕ → CallError → Type 0
IsDamageError bytes (errors.Head cause) = Rejected bytes cause
IsDamageError bytes NotWritable = HasUnfitHead bytes (by_bytes Unsupported)
IsDamageError bytes TooLong = HasUnfitHead bytes too_long
IsDamageError bytes _ = ⊥

-- why a file isn't repaired
abbrev pub IsRepairError : Bool → ℕ → List ℕ → CallError → Type 0
IsRepairError looks used old NoRoom = (length old < used) ⊎ LacksRoom looks used old
IsRepairError looks used old error = IsDamageError (take used old) error

-- what repairing does, by its outcome: the first n bytes are what `repair` leaves of the file, or `repair_to_end` where
-- no chunks are looked for, all of them in the caller's memory, and what it found is reported; or all stays
abbrev pub RepairsFile : Bool → ℕ → List ℕ → List ℕ → HoundRepair → HoundRepair → Result ℕ CallError → Type 0
RepairsFile looks used old new was now (Ok n) = (used ≤ length old) × (n ≤ length new)
    × (found : Repair) × RepairsBytes looks used n found old new × IsReported found now
    × HasHeadOf (take used old) now
RepairsFile looks used old new was now (Err error) = (new ≡ old) × (now ≡ was) × IsRepairError looks used old error
