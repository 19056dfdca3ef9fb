-- How many actions a recorder still requests.
use Rattle.std.specs.Prelude.{ℕ, ◌+◌, ◌-◌, Bool, true, false}
use Rattle.hound_writer.specs.declared.recorder.Phase.{Phase}
use Rattle.hound_writer.specs.declared.recorder.Phase.TheVariants.{Idle, Saving, Requested, Writing, Cleaning}
use Rattle.hound_writer.specs.declared.recorder.Recorder.{Recorder}

-- a cut, where bytes that aren't counted follow the data
abbrev pub cuts_left : Bool → ℕ
cuts_left true = 1
cuts_left false = 0

-- In each phase: of a checkpoint those effects that are left; of a block those of the checkpoint before it, the block,
-- and the cut of a block that failed.
abbrev pub left_in : Phase → ℕ → ℕ → ℕ
left_in Idle cuts number = 0
left_in Saving cuts number = cuts + (7 - number)
left_in (Requested n) cuts number = cuts + (7 - number) + 3
left_in (Writing n) cuts number = cuts + 2
left_in Cleaning cuts number = 1

-- So many actions a recorder requests at most until its request has ended.
abbrev pub actions_left : Recorder → ℕ
actions_left r = left_in r.phase (cuts_left r.has_rest) r.number
