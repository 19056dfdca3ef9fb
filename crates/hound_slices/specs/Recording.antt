-- Recorders as C has them.
use Rattle.std.specs.Prelude.{◌≡◌, ℕ, ◌/◌, ◌%◌, ◌≤◌, ◌==◌, nat_lt, if◌then◌else◌, Bool, None, Result, Ok, Err}
use Rattle.hound_writer.specs.declared.recorder.Health.{Health}
use Rattle.hound_writer.specs.declared.recorder.Health.TheVariants.{Sound, Suspect, Dead}
use Rattle.hound_writer.specs.declared.recorder.Phase.{Phase}
use Rattle.hound_writer.specs.declared.recorder.Phase.TheVariants.{Idle, Saving, Requested, Writing, Cleaning}
use Rattle.hound_writer.specs.declared.recorder.RecorderError.{RecorderError}
use Rattle.hound_writer.specs.declared.recorder.Recorder.{Recorder}
use Rattle.hound_writer.specs.declared.resuming.FoundFile.{FoundFile}
use Rattle.hound_slices.specs.Effects.{effect_of}
use Rattle.hound_slices.specs.Repairing.{state_of_code}
use Rattle.hound_slices.specs.Writing.{spec_from_c}
use Rattle.hound_slices.specs.declared.recording.HoundRecorder.{HoundRecorder}
use Rattle.hound_slices.specs.declared.spec.HoundRepair.{HoundRepair}

-- whether the file is as the recorder counts it, by its number
abbrev pub health_of_code : ℕ → Health
health_of_code number = if number == 0 then Sound else if number == 1 then Suspect else Dead

-- what is under way, by its number: with a block the data have n bytes
abbrev pub phase_of_code : ℕ → ℕ → Phase
phase_of_code number n =
    if number == 1 then Saving else if number == 2 then Requested n
    else if number == 3 then Writing n else if number == 4 then Cleaning else Idle

-- how many bytes the data have with the block that is under way
abbrev pub block_of : Phase → ℕ
block_of (Requested n) = n
block_of (Writing n) = n
block_of _ = 0

-- the recorder that C's is
abbrev pub recorder_of : HoundRecorder → Recorder
recorder_of c = record {
  data_start = c.data_start;
  data_length = c.data_length;
  number = c.number;
  bytes_per_sample = c.bytes_per_sample;
  channels = c.channels;
  health = health_of_code c.health;
  phase = phase_of_code c.phase c.block;
  has_rest = nat_lt 0 c.has_rest;
}

-- Each number of C's recorder is the least that means the same, so that a later version may give the greater ones
-- another meaning: a recorder may be kept across two versions.
pub record HasRecorderNumbers (c : HoundRecorder) : Type 0 where
  pub health : c.health ≤ 2
  pub phase : c.phase ≤ 4
  pub has_rest : c.has_rest ≤ 1

-- C's recorder is this one, and nothing is requested, if it begins; else it stays
abbrev pub BeginsForC : Result Recorder RecorderError → HoundRecorder → HoundRecorder → Type 0
BeginsForC (Ok r) old new = (recorder_of new ≡ r) × (new.effect ≡ effect_of None) × HasRecorderNumbers new
BeginsForC (Err error) old new = new ≡ old

-- the file that C's is
abbrev pub found_file : HoundRepair → FoundFile
found_file c = record {
  spec_ex = spec_from_c c.spec;
  data_start = c.data_start;
  data_length = c.data_length;
  length = c.length;
  frames = c.frames;
  state = state_of_code c.state;
}

-- what is allowed: the sum of 1 if a recording may be mended, and 2 if chunks may be overwritten
abbrev pub mends : ℕ → Bool
mends allowed = allowed % 2 == 1

abbrev pub overwrites : ℕ → Bool
overwrites allowed = allowed / 2 % 2 == 1
