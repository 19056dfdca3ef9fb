-- The repair of a caller who reads and writes the file.
use Rattle.std.specs.Prelude.{◌≡◌, ℕ, ◌+◌, ◌/◌, ◌≤◌, ◌<◌, ◌==◌, nat_lt, if◌then◌else◌, true, false, List, min, take, Option, None, Some, Result, Ok, Err}
use Rattle.hound_spec.specs.{greatest_u32}
use Rattle.hound_spec.specs.declared.spec.WavSpecEx.{WavSpecEx}
use Rattle.hound_repair.specs.{AsksNext, asked_count, frame_length, repair_of}
use Rattle.hound_repair.specs.declared.look.SeenHead.{SeenHead}
use Rattle.hound_repair.specs.declared.machine.FailedAction.{FailedAction}
use Rattle.hound_repair.specs.declared.machine.FailedAction.TheVariants.{Sync, Call}
use Rattle.hound_repair.specs.declared.machine.RepairError.{RepairError}
use Rattle.hound_repair.specs.declared.machine.RepairError.TheVariants.{Rejected, Failed}
use Rattle.hound_repair.specs.declared.machine.RepairStep.{RepairStep}
use Rattle.hound_repair.specs.declared.machine.RepairStep.TheVariants.{Asks, Found}
use Rattle.hound_repair.specs.declared.machine.Repairing.{Repairing}
use Rattle.hound_repair.specs.declared.machine.Repairing.TheVariants as states
use Rattle.hound_repair.specs.declared.stages.Stage.TheVariants as stages
use Rattle.hound_repair.specs.declared.stages.Task.{Task}
use Rattle.hound_repair.specs.declared.stages.Task.TheVariants.{FindDamage, MakeCanonical, Repair, RepairToEnd}
use Rattle.hound_writer.specs.declared.recorder.RecorderError.TheVariants.{SyncFailed}
use Rattle.hound_slices.specs.Codes.{error_of_rejection}
use Rattle.hound_slices.specs.Effects.{effect_of, report_of}
use Rattle.hound_slices.specs.Repairing.{IsReported, state_of_code}
use Rattle.hound_slices.specs.Walks.{found_of, part_of, walk_with}
use Rattle.hound_slices.specs.declared.error.CallError.{CallError}
use Rattle.hound_slices.specs.declared.error.CallError.TheVariants.{NotPerformed, Recorder}
use Rattle.hound_slices.specs.declared.repairer.HoundRepairer.{HoundRepairer}
use Rattle.hound_slices.specs.declared.spec.HoundRepair.{HoundRepair}

-- what the caller requests, by its number
abbrev pub task_of : ℕ → Task
task_of mode =
    if mode == 1 then Repair else if mode == 2 then RepairToEnd
    else if mode == 3 then MakeCanonical else FindDamage

-- what failed, by its number
abbrev pub failure_of_code : ℕ → FailedAction
failure_of_code number = if number == 0 then Sync else Call

-- the head whose spec is this, if its data begin where those of a file may
abbrev pub head_with : HoundRepairer → Option WavSpecEx → Option SeenHead
head_with c None = None
head_with c (Some s) =
    if nat_lt c.data_start 20 then None
    else if nat_lt (20 + greatest_u32) c.data_start then None
    else Some (record { spec_ex = s; data_length = c.data_length; data_start = c.data_start; has_more = c.taken == 1 })

-- the head that was found, if C's is one of a file
abbrev pub head_of : HoundRepairer → Option SeenHead
head_of c = head_with c (found_of c.spec)

-- where a repairer is that has found the head
abbrev pub after_head : HoundRepairer → SeenHead → Repairing
after_head c head =
    if c.part == 4 then states.Looks (stages.Last head)
    else if c.part == 5 then states.Looks (stages.Size head)
    else if c.part == 6 then states.Looks (stages.Chunk head c.place true)
    else if c.part == 7 then states.Looks (stages.Chunk head c.place false)
    else if c.part == 8 then states.Looks (stages.Tag head)
    else if c.part == 9 then states.Mends head c.number
    else states.Found head (state_of_code c.number)

-- one whose head is none of a file has failed
abbrev pub if_head : HoundRepairer → Option SeenHead → Repairing
if_head c None = states.Failed Call
if_head c (Some head) = after_head c head

-- the repair that C's is
abbrev pub repairing_of : HoundRepairer → Repairing
repairing_of c =
    if nat_lt c.part 4
    then states.Looks (stages.Head (walk_with c.spec c.taken c.part c.fmt_length))
    else if c.part == 11 then states.Failed (failure_of_code c.number)
    else if_head c (head_of c)

-- how many bytes a repairer has asked for
abbrev pub count_of : Repairing → ℕ
count_of (states.Looks stage) = asked_count stage
count_of _ = 0

-- the bytes that were read of those
abbrev pub bytes_read : HoundRepairer → List ℕ
bytes_read c = take (min (min c.effect.length 40) (count_of (repairing_of c))) c.effect.bytes

-- what a call returns for an error of a repair
abbrev pub error_of : RepairError → CallError
error_of (Rejected why) = error_of_rejection why
error_of (Failed Sync) = Recorder SyncFailed
error_of (Failed Call) = NotPerformed

-- What C gets of a step: the effect that is requested, or what was found with the place of the data, their length as in
-- the header and the length of the file, or an error. At an error of the bytes all stays.
abbrev pub GivesStep : HoundRepairer → HoundRepairer → HoundRepair → HoundRepair
    → Result RepairStep RepairError → Result ℕ CallError → Type 0
GivesStep old new was now (Ok (Asks action)) outcome =
    (outcome ≡ Ok 1) × (new.effect ≡ effect_of (Some action)) × (now ≡ was)
GivesStep old new was now (Ok (Found d)) outcome =
    (outcome ≡ Ok 0) × (new.effect ≡ effect_of None) × IsReported (repair_of d) now
    × (now.data_start ≡ d.head.data_start) × (now.data_length ≡ d.head.data_length) × (now.length ≡ old.length)
    × (now.counted ≡ d.head.data_length / frame_length d.head.spec_ex)
GivesStep old new was now (Err (Failed failure)) outcome =
    (outcome ≡ Err (error_of (Failed failure))) × (new.effect ≡ effect_of None) × (now ≡ was)
GivesStep old new was now (Err (Rejected why)) outcome =
    (outcome ≡ Err (error_of (Rejected why))) × (new ≡ old) × (now ≡ was)

-- Each number of C's repairer is the least that means the same, as those of a recorder are. What it has taken says
-- whether a sample follows the data, once it has found the head.
pub record HasRepairerNumbers (c : HoundRepairer) : Type 0 where
  pub part : c.part ≤ 11
  pub more : 4 ≤ c.part → c.part < 11 → c.taken ≤ 1
  pub found : c.part ≡ 10 → c.number ≤ 3
  pub failed : c.part ≡ 11 → c.number ≤ 1

-- What a step of a repairer does, by its outcome: what the repair that it is does.
pub record StepsRepairer (old new : HoundRepairer) (was now : HoundRepair) (outcome : Result ℕ CallError) : Type 0 where
  pub step : Result RepairStep RepairError
  pub next : AsksNext (task_of old.mode) old.length (bytes_read old) (report_of old.effect)
      (repairing_of old) (repairing_of new) step
  pub gives : GivesStep old new was now step outcome
  pub length : new.length ≡ old.length
  pub mode : new.mode ≡ old.mode
  pub numbers : HasRepairerNumbers old → HasRepairerNumbers new

-- A repairer that begins: nothing was read of a file of so many bytes.
pub record BeginsRepairer (length mode : ℕ) (new : HoundRepairer) : Type 0 where
  pub effect : new.effect ≡ effect_of None
  pub length_is : new.length ≡ length
  pub mode_is : new.mode ≡ mode
  pub numbers : HasRepairerNumbers new
  pub state : repairing_of new ≡ states.Looks (stages.Head (record { found = None; taken = 0; part = part_of 0 0 }))
