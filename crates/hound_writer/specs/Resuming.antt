-- A file that was found, and is recorded further.
use Rattle.std.specs.Prelude.{◌≡◌, ℕ, ◌+◌, ◌*◌, ◌%◌, ◌<◌, ◌≤◌, ◌==◌, ◌&&◌, ◌||◌, not, nat_le, nat_lt, if◌then◌else◌, Bool, Result, Ok, Err}
use Rattle.hound_writer.specs.Recorder.{AppendsRecorder, recorder_of}
use Rattle.hound_writer.specs.declared.recorder.Health.TheVariants.{Sound, Suspect}
use Rattle.hound_writer.specs.declared.recorder.Recorder.{Recorder}
use Rattle.hound_writer.specs.declared.recorder.RecorderError.{RecorderError}
use Rattle.hound_writer.specs.declared.recorder.RecorderError.TheVariants.{NeedsMend, NeedsOverwrite, Truncated, UnfinishedFrame}
use Rattle.hound_writer.specs.declared.resuming.RepairState.{RepairState}
use Rattle.hound_writer.specs.declared.resuming.RepairState.TheVariants as states
use Rattle.hound_writer.specs.declared.resuming.FoundFile.{FoundFile}

-- how many bytes a frame of the file has
abbrev pub found_frame : FoundFile → ℕ
found_frame f = f.spec_ex.spec.channels * f.spec_ex.bytes_per_sample

-- the file ends with the whole frames that its header counts, or with a pad byte after them, and holds no other frame:
-- a sample of one byte may be where the pad byte would
abbrev pub ends_whole : FoundFile → Bool
ends_whole f = nat_lt 0 (found_frame f) && ((f.data_length % found_frame f == 0)
    && (nat_le (f.frames * found_frame f) f.data_length
    && nat_le f.length (f.data_start + f.data_length + f.data_length % 2)))

-- Table: how a recorder continues a file, by the first row that applies to it (File, Allowed, the recorder then).
-- | any that lacks samples which are counted | nothing | none: `Truncated` |
-- | any that ends with the whole frames that are counted, or with their pad byte | nothing | continues after them |
-- | `Whole` or `AllCounted` | nothing | continues after the samples that are counted, and cuts off a torn frame |
-- | `CutOff`, whose header counts no more than whole frames | to mend | continues after all of these, by a checkpoint |
-- | `CutOff`, whose header counts more | to mend | none: `UnfinishedFrame`, to be repaired first |
-- | `CutOff` | nothing | none: `NeedsMend` |
-- | `HasChunksAfterData` | to overwrite | continues after the samples that are counted, and cuts the chunks off |
-- | `HasChunksAfterData` | nothing | none: `NeedsOverwrite` |
abbrev pub kept_as : RepairState → FoundFile → Bool → Bool → Result ℕ RecorderError
kept_as states.Whole f mends overwrites = Ok f.data_length
kept_as states.CutOff f mends overwrites =
    if mends then (if nat_le f.data_length (f.frames * found_frame f) then Ok (f.frames * found_frame f)
    else Err UnfinishedFrame) else Err NeedsMend
kept_as states.AllCounted f mends overwrites = Ok f.data_length
kept_as states.HasChunksAfterData f mends overwrites = if overwrites then Ok f.data_length else Err NeedsOverwrite

-- how many bytes of data are kept, where samples are missing or nothing follows those that the header counts; else as
-- above
abbrev pub kept_length : FoundFile → Bool → Bool → Result ℕ RecorderError
kept_length f mends overwrites =
    if nat_lt f.length (f.data_start + f.data_length) then Err Truncated
    else if ends_whole f then Ok f.data_length else kept_as f.state f mends overwrites

-- whether more than a pad byte follows n bytes of data
abbrev pub rest_follows : FoundFile → ℕ → Bool
rest_follows f n = nat_lt (f.data_start + n + n % 2) f.length

-- the recorder that keeps n bytes of data: what follows them is cut off, and a checkpoint comes first if the header
-- counts others or something is cut off
abbrev pub resumed_recorder : FoundFile → ℕ → Recorder
resumed_recorder f n = record (recorder_of f.spec_ex f.data_start n) {
  has_rest = rest_follows f n;
  health = if rest_follows f n || not (n == f.data_length) then Suspect else Sound;
}

-- what it is to append after n bytes of data, which the file holds
abbrev pub ContinuesAfter : FoundFile → ℕ → Result Recorder RecorderError → Type 0
ContinuesAfter f n (Ok r) = AppendsRecorder f.spec_ex f.data_start n (Ok (recorder_of f.spec_ex f.data_start n))
    × (f.data_start + n ≤ f.length) × (r ≡ resumed_recorder f n)
ContinuesAfter f n (Err Truncated) = f.length < f.data_start + n
ContinuesAfter f n (Err error) = AppendsRecorder f.spec_ex f.data_start n (Err error)

-- what the call for a file that was found does, if so many bytes of data are kept
abbrev pub ResumesAfter : FoundFile → Result ℕ RecorderError → Result Recorder RecorderError → Type 0
ResumesAfter f (Ok n) result = ContinuesAfter f n result
ResumesAfter f (Err error) result = result ≡ Err error

-- what the call for a file that was found does
abbrev pub Resumes : FoundFile → Bool → Bool → Result Recorder RecorderError → Type 0
Resumes f mends overwrites result = ResumesAfter f (kept_length f mends overwrites) result
