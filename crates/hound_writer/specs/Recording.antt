-- A recording whose caller writes the samples and performs the effects, as a recorder directs.
use Rattle.std.specs.Prelude.{◌≡◌, ℕ, ◌+◌, ◌*◌, ◌<◌, ◌≤◌, Bool, true, false, List, [], ◌∷◌, length, take, drop, Result, Ok, Err, is_ok}
use Rattle.std.specs.declared.io.Error.{Error as IoFault}
use Rattle.hound_durable.specs.{Ascends, IsBelow}
use Rattle.hound_medium.specs.{Goes, MediumState}
use Rattle.hound_sample.specs.{containers}
use Rattle.hound_spec.specs.declared.spec.WavSpecEx.{WavSpecEx}
use Rattle.hound_walk.specs.{Head, IsSoundSpec, Readable}
use Rattle.hound_writer.specs.Accepting.{whole_containers}
use Rattle.hound_writer.specs.Beginning.{DoesBeginnings, beginning}
use Rattle.hound_writer.specs.Calls.{Begun, Known, Recorded, appended, handed_in, marked, publish, write}
use Rattle.hound_writer.specs.Effects.{Log, Performed, log_kind}
use Rattle.hound_writer.specs.Parts.{CountsAtMost, of_fields}
use Rattle.hound_writer.specs.Recorder.{HasData, IsClear, effects_of}
use Rattle.hound_writer.specs.Writer.{WriterState, IsSound}
use Rattle.hound_writer.specs.declared.recorder.Health.TheVariants.{Sound}
use Rattle.hound_writer.specs.declared.recorder.Phase.{Phase}
use Rattle.hound_writer.specs.declared.recorder.Phase.TheVariants.{Requested, Writing}
use Rattle.hound_writer.specs.declared.recorder.Recorder.{Recorder}
use Rattle.hound_writer.specs.declared.recorder.RecorderError.{RecorderError}
use Rattle.hound_writer.specs.declared.resuming.FoundFile.{FoundFile}

-- A new file is recorded: all effects with which it begins were done.
abbrev pub Opened : WavSpecEx → MediumState → MediumState → Type 0
Opened s old new = DoesBeginnings true s beginning (Ok tt) old new

-- A file is recorded further: it was found with so many samples, and the caller went to their end.
pub record Resumed (f : FoundFile) (samples : ℕ) (old new : MediumState) : Type 0 where
  pub sound : IsSoundSpec f.spec_ex
  pub readable : Readable old.contents f.spec_ex samples f.data_start
  pub counted : f.data_length ≡ samples * f.spec_ex.bytes_per_sample
  pub all : f.length ≡ length old.contents
  pub goes : Goes {T = Unit {0}} {E = IoFault} (f.data_start + f.data_length) (Ok tt) old new

-- A recording was cut off: the header of its file counts no more than n bytes of samples, which it holds.
pub record IsCutOff (f : FoundFile) (n : ℕ) (m : MediumState) : Type 0 where
  pub sound : IsSoundSpec f.spec_ex
  pub head : Head m.contents f.spec_ex f.data_length f.data_start
  pub counted : f.data_length ≤ n
  pub held : f.data_start + n ≤ length m.contents

-- a writer of the file of a recorder, which holds the samples of that
abbrev pub writer_of : WavSpecEx → Recorder → Log → WriterState Log
writer_of s r m = of_fields m s r.data_start r.data_length [] []

-- the file of a recording that was resumed
abbrev pub resumed_file : WavSpecEx → ℕ → ℕ → MediumState → Begun
resumed_file s samples start old = appended old start (containers s.bytes_per_sample samples (drop start old.contents))

-- two files agree up to a place: what follows may differ, or be cut off
abbrev pub AgreeTo : ℕ → List ℕ → List ℕ → Type 0
AgreeTo n a b = (take n a ≡ take n b) × (n ≤ length a) × (n ≤ length b)

-- all that was written to a medium is flushed
abbrev pub IsSynced : MediumState → Type 0
IsSynced m = m.flushed ≡ length m.past

-- since it was flushed, a medium was written at ascending places only, all before this one
pub record IsOrdered (high : ℕ) (m : MediumState) : Type 0 where
  pub within : m.flushed ≤ length m.past
  pub ascends : Ascends m.past m.flushed (length m.past)
  pub below : IsBelow high m.past m.flushed

-- a writer between two calls of a recording: nothing is buffered
pub record IsIdle (w : WriterState Log) : Type 0 where
  pub none : w.buffered ≡ []
  pub sound : IsSound w
  pub at_most : CountsAtMost w.spec_ex w.data_start w.bytes_written w.medium.state.contents

-- the data of a recorder are those of a writer
abbrev pub IsRecorderOf : Recorder → WriterState Log → Type 0
IsRecorderOf r w = (r.data_start ≡ w.data_start) × (r.data_length ≡ w.bytes_written)
    × (r.bytes_per_sample ≡ w.spec_ex.bytes_per_sample)

-- A file is in step with its recorder: calls of a writer led to it, of which these are known, a write or a checkpoint
-- each; and of a checkpoint under way the effects so far were performed. If all was synced in the file as it was handed
-- in, what was written since the last sync is at ascending places, before that of the next samples unless a write has
-- failed.
pub record InStep (s : WavSpecEx) (file : Begun) (known : List Known) (r : Recorder) (m : MediumState) : Type 0 where
  pub writer : WriterState Log
  pub recorded : Recorded log_kind s file known writer
  pub idle : IsIdle writer
  pub is : IsRecorderOf r writer
  pub order : IsSynced (handed_in file) → (high : ℕ) × IsOrdered high writer.medium.state
      × (r.health ≡ Sound → high ≤ r.data_start + r.data_length)
  pub log : Log
  pub state : log.state ≡ m
  pub performed : Performed (take r.number (effects_of r)) (Ok tt) writer.medium log

-- what is known of a write of a block, by whether it succeeded
abbrev pub block_known : List ℕ → Bool → WavSpecEx → Known
block_known bytes ok s = marked (write (whole_containers s bytes)) ok

-- a block of whole frames has room: with it the data have n bytes
abbrev pub HasRoomTo : ℕ → Recorder → Type 0
HasRoomTo n r = (frames : ℕ) × (n ≡ r.data_length + frames * r.channels * r.bytes_per_sample) × HasData r n

-- so has a block that is requested; and once it is handed out, no checkpoint comes before it
abbrev pub HasPlace : Phase → Recorder → Type 0
HasPlace (Requested n) r = HasRoomTo n r
HasPlace (Writing n) r = HasRoomTo n r × IsClear r
HasPlace _ r = Unit

-- What a caller has that did as its recorder said, and has reported it: the file is in step with the recorder, and all
-- that is written are whole frames. So is the block that is requested, and it has room.
pub record Directed (s : WavSpecEx) (file : Begun) (known : List Known) (r : Recorder) (m : MediumState) : Type 0 where
  pub in_step : InStep s file known r m
  pub channels : r.channels ≡ s.spec.channels
  pub whole : (frames : ℕ) × (r.data_length ≡ frames * r.channels * r.bytes_per_sample)
  pub block : HasPlace r.phase r

-- what is known of a checkpoint, where it ended in an error
abbrev pub cut_known : Result (Unit {0}) RecorderError → List Known
cut_known (Ok x) = []
cut_known (Err error) = marked publish false ∷ []
