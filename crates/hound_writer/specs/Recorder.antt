-- A recorder, whose caller writes the file.
use Rattle.std.specs.Prelude.{◌≡◌, ◌⊎◌, ℕ, ◌+◌, ◌-◌, ◌*◌, ◌%◌, ◌<◌, ◌≤◌, if◌then◌else◌, Bool, true, false, List, ◌∷◌, Option, None, Some, Result, Ok, Err, min, ◌^◌}
use Rattle.hound_spec.specs.{IsPair, IsWritable, data_start, greatest_u32, riff_size}
use Rattle.hound_spec.specs.declared.spec.WavSpecEx.{WavSpecEx}
use Rattle.hound_writer.specs.Effects.{checkpoint, nth}
use Rattle.hound_writer.specs.declared.effects.Effect.{Effect}
use Rattle.hound_writer.specs.declared.effects.Effect.TheVariants.{Sync}
use Rattle.hound_writer.specs.declared.recorder.Health.{Health}
use Rattle.hound_writer.specs.declared.recorder.Health.TheVariants.{Sound, Suspect, Dead}
use Rattle.hound_writer.specs.declared.recorder.Phase.TheVariants.{Idle, Saving, Requested, Writing, Cleaning}
use Rattle.hound_writer.specs.declared.recorder.Recorder.{Recorder}
use Rattle.hound_writer.specs.declared.recorder.RecorderError.{RecorderError}
use Rattle.hound_writer.specs.declared.recorder.RecorderError.TheVariants.{NotWritable, UnfinishedFrame, TooLong, NeedsCheckpoint, SyncFailed}
use Rattle.hound_writer.specs.declared.effects.Action.{Action}
use Rattle.hound_writer.specs.declared.effects.Action.TheVariants.{Perform, WriteBlock, Shorten, Read}
use Rattle.hound_writer.specs.declared.effects.Report.{Report}
use Rattle.hound_writer.specs.declared.effects.Report.TheVariants.{Pending, Done, Failed}
use Rattle.hound_writer.specs.declared.recorder.Phase.{Phase}

-- a recorder that has nothing to do, of a file whose data begin here and have so many bytes
abbrev pub recorder_of : WavSpecEx → ℕ → ℕ → Recorder
recorder_of s start len = record {
  data_start = start;
  data_length = len;
  number = 0;
  bytes_per_sample = s.bytes_per_sample;
  channels = s.spec.channels;
  health = Sound;
  phase = Idle;
  has_rest = false;
}

-- what the call for a new file does: a checkpoint is under way, which stores the header
abbrev pub BeginsRecorder : WavSpecEx → Result Recorder RecorderError → Type 0
BeginsRecorder s (Ok recorder) = IsWritable s × (recorder ≡ record (recorder_of s (data_start s) 0) { phase = Saving })
BeginsRecorder s (Err error) = (IsWritable s → ⊥) × (error ≡ NotWritable)

-- a file has so many bytes of data where a recorder's begin
abbrev pub HasData : Recorder → ℕ → Type 0
HasData r len = (20 ≤ r.data_start) × (1 ≤ r.bytes_per_sample) × (riff_size r.data_start len ≤ greatest_u32)

-- why none has
abbrev pub HasNoData : Recorder → ℕ → RecorderError → Type 0
HasNoData r len NotWritable = (r.data_start < 20) ⊎ (r.bytes_per_sample ≡ 0)
HasNoData r len TooLong = greatest_u32 < riff_size r.data_start len
HasNoData r len _ = ⊥

-- what the call for a file that has so many bytes of data does: they are whole frames
abbrev pub AppendsRecorder : WavSpecEx → ℕ → ℕ → Result Recorder RecorderError → Type 0
AppendsRecorder s start len (Ok recorder) = (1 ≤ s.spec.channels)
    × IsPair s.spec.sample_format s.spec.bits_per_sample s.bytes_per_sample
    × (len % (s.spec.channels * s.bytes_per_sample) ≡ 0)
    × HasData recorder len × (recorder ≡ recorder_of s start len)
AppendsRecorder s start len (Err UnfinishedFrame) = (1 ≤ s.spec.channels)
    × (len % (s.spec.channels * s.bytes_per_sample) ≡ 0 → ⊥)
AppendsRecorder s start len (Err TooLong) = greatest_u32 < riff_size start len
AppendsRecorder s start len (Err error) = (error ≡ NotWritable) × ((s.spec.channels ≡ 0) ⊎ (start < 20)
    ⊎ (IsPair s.spec.sample_format s.spec.bits_per_sample s.bytes_per_sample → ⊥))

-- how many bytes of data there are after so many samples more
abbrev pub length_with : Recorder → ℕ → ℕ
length_with r samples = r.data_length + samples * r.bytes_per_sample

-- no checkpoint comes before the next block: nothing has failed, and none is under way
abbrev pub IsClear : Recorder → Type 0
IsClear r = (r.health ≡ Sound) × (r.number ≡ 0)

-- so many frames have room after the data that are written
abbrev pub HasRoomFor : Recorder → ℕ → Type 0
HasRoomFor r frames = (1 ≤ r.channels) × HasData r (length_with r (frames * r.channels))

-- n frames have room, and no more; or none has
abbrev pub LeavesRoom : Recorder → ℕ → Type 0
LeavesRoom r n = (1 ≤ n → HasRoomFor r n) × ((frames : ℕ) → HasRoomFor r frames → frames ≤ n)

-- whether nothing has failed
abbrev pub is_sound : Health → Bool
is_sound Sound = true
is_sound _ = false

-- the effects of a recorder's checkpoint: after a write that failed a sync comes first
abbrev pub effects_of : Recorder → List Effect
effects_of r =
    if is_sound r.health then checkpoint r.data_start r.data_length
    else Sync ∷ checkpoint r.data_start r.data_length

-- no sync has failed
abbrev pub IsAlive : Recorder → Type 0
IsAlive r = r.health ≡ Dead → ⊥

-- a checkpoint can be made: no sync has failed, and a file can have such data
abbrev pub CanSave : Recorder → Type 0
CanSave r = IsAlive r × HasData r r.data_length

-- why none can be made
abbrev pub CannotSave : Recorder → RecorderError → Type 0
CannotSave r SyncFailed = r.health ≡ Dead
CannotSave r error = IsAlive r × HasNoData r r.data_length error

-- this effect of the checkpoint is next: as many of them are done as the recorder's number says
abbrev pub HasNext : Effect → Recorder → Type 0
HasNext effect r = CanSave r × (nth (effects_of r) r.number ≡ Some effect)

-- all effects of the checkpoint are done
abbrev pub HasNoNext : Recorder → Type 0
HasNoNext r = CanSave r × (nth (effects_of r) r.number ≡ None)

-- the recorder once its checkpoint is done
abbrev pub saved : Recorder → Recorder
saved r = record r { number = 0; health = Sound }

-- the recorder once its checkpoint has ended in an error
abbrev pub stopped : Recorder → Recorder
stopped r = record r { number = 0; phase = Idle }

-- the health of a recorder one of whose effects has failed: after a sync nobody knows what is stored
abbrev pub health_after : Effect → Health
health_after Sync = Dead
health_after _ = Suspect

-- the error of a call that a failure has ended
abbrev pub error_for : Health → RecorderError
error_for Dead = SyncFailed
error_for _ = NeedsCheckpoint

-- where the data of a recorder end
abbrev pub end_of : Recorder → ℕ
end_of r = r.data_start + r.data_length

-- that place, in 64 bits
abbrev pub end_place : Recorder → ℕ
end_place r = min (end_of r) (2 ^ 64 - 1)

-- whether a cut comes next: of what a failed block left; or, while something is under way, of what follows the data
abbrev pub cuts_next : Phase → Bool → Bool
cuts_next Idle rest = false
cuts_next Cleaning rest = true
cuts_next _ rest = rest

-- Table: what `next` returns, by the phase (Phase, `next` returns, the recorder then).
-- | Idle | nothing: all is done | as it was |
abbrev pub HasNothing : Recorder → Recorder → Type 0
HasNothing old new = (old.phase ≡ Idle) × (new ≡ old)

-- | Saving, once no effect is left | nothing: all is done | Idle, and Sound |
abbrev pub HasSaved : Recorder → Recorder → Type 0
HasSaved old new = (old.phase ≡ Saving) × (old.has_rest ≡ false) × HasNoNext old
    × (new ≡ record (saved old) { phase = Idle })

-- | Cleaning; and any other but Idle while bytes are to be cut off | a cut where the data end | as it was |
abbrev pub CutsOff : ℕ → Recorder → Recorder → Type 0
CutsOff at old new = (cuts_next old.phase old.has_rest ≡ true) × (new ≡ old) × (at ≡ end_place old)

-- a checkpoint is under way: one that was requested, or one that comes before a block
abbrev pub IsSaving : Recorder → Type 0
IsSaving r = (r.has_rest ≡ false)
    × ((r.phase ≡ Saving) ⊎ ((n : ℕ) × (r.phase ≡ Requested n) × (IsClear r → ⊥)))

-- | Saving; and Requested, unless Sound with no checkpoint begun | the next effect of the checkpoint | as it was |
abbrev pub HasEffect : Effect → Recorder → Recorder → Type 0
HasEffect effect old new = IsSaving old × HasNext effect old × (new ≡ old)

-- a block is written, after which the data have n bytes: it was handed out before, or no checkpoint comes before it, or
-- that one is done
abbrev pub BeginsBlock : ℕ → Recorder → Recorder → Type 0
BeginsBlock n old new = ((old.phase ≡ Writing n) × (new ≡ old))
    ⊎ ((old.phase ≡ Requested n) × (IsClear old ⊎ HasNoNext old) × (new ≡ record (saved old) { phase = Writing n }))

-- | Requested, once no checkpoint comes first; and Writing | the block, where the data end | Writing |
abbrev pub HasBlock : ℕ → ℕ → Recorder → Recorder → Type 0
HasBlock at len old new = (n : ℕ) × (old.has_rest ≡ false) × BeginsBlock n old new × (at ≡ end_place old)
    × (len ≡ n - old.data_length)

-- | Saving or Requested, of a recorder that no call made | `NotWritable` or `TooLong` | Idle |
abbrev pub HasStopped : RecorderError → Recorder → Recorder → Type 0
HasStopped error old new = IsSaving old × CannotSave old error × (new ≡ stopped old)

-- the table of what there is to do
abbrev pub GoesOn : Recorder → Recorder → Result (Option Action) RecorderError → Type 0
GoesOn old new (Ok None) = HasNothing old new ⊎ HasSaved old new
GoesOn old new (Ok (Some (Shorten at))) = CutsOff at old new
GoesOn old new (Ok (Some (Perform effect))) = HasEffect effect old new
GoesOn old new (Ok (Some (WriteBlock at len))) = HasBlock at len old new
GoesOn old new (Ok (Some (Read at len))) = ⊥
GoesOn old new (Err error) = HasStopped error old new

-- it continues unless something has failed
-- | any, once Dead | `SyncFailed` | as it was |
abbrev pub ThenGoesOn : Result (Unit {0}) RecorderError → Recorder → Recorder
    → Result (Option Action) RecorderError → Type 0
ThenGoesOn (Ok x) mid new result = (IsAlive mid × GoesOn mid new result)
    ⊎ ((mid.health ≡ Dead) × (result ≡ Err SyncFailed) × (new ≡ mid))
ThenGoesOn (Err error) mid new result = (result ≡ Err error) × (new ≡ mid)

-- how the effect that was next has ended: it is done, or it has failed
abbrev pub EffectEnds : Bool → Effect → Recorder → Recorder → Result (Unit {0}) RecorderError → Type 0
EffectEnds true effect old new result = (new ≡ record old { number = old.number + 1 }) × (result ≡ Ok tt)
EffectEnds false effect old new result = (new ≡ record (stopped old) { health = health_after effect })
    × (result ≡ Err (error_for (health_after effect)))

-- what a report of it makes of the recorder; where no effect was next it changes nothing, or the checkpoint stops
abbrev pub EndsEffect : Bool → Recorder → Recorder → Result (Unit {0}) RecorderError → Type 0
EndsEffect ok old new result = ((effect : Effect) × HasNext effect old × EffectEnds ok effect old new result)
    ⊎ (HasNoNext old × (new ≡ old) × (result ≡ Ok tt))
    ⊎ ((error : RecorderError) × CannotSave old error × (new ≡ stopped old) × (result ≡ Err error))

-- Table: what a report makes of a recorder, by the phase (Phase, Report, the recorder then).
-- | Idle | done or failed | as it was |
abbrev pub HadNothing : Recorder → Recorder → Result (Unit {0}) RecorderError → Type 0
HadNothing old new result = (old.phase ≡ Idle) × (new ≡ old) × (result ≡ Ok tt)

-- | Cleaning | done or failed | Idle; the call returns `NeedsCheckpoint`, or `SyncFailed` once Dead |
abbrev pub HasCleaned : Recorder → Recorder → Result (Unit {0}) RecorderError → Type 0
HasCleaned old new result = (old.phase ≡ Cleaning) × (new ≡ record old { phase = Idle })
    × (result ≡ Err (error_for old.health))

-- | any other, while bytes are to be cut off | done or failed | nothing is to be cut off |
abbrev pub HasCut : Recorder → Recorder → Result (Unit {0}) RecorderError → Type 0
HasCut old new result = (old.phase ≡ Idle → ⊥) × (old.phase ≡ Cleaning → ⊥) × (old.has_rest ≡ true)
    × (new ≡ record old { has_rest = false }) × (result ≡ Ok tt)

-- a recorder one of whose writes has failed
abbrev pub doubted : Health → Health
doubted Dead = Dead
doubted _ = Suspect

-- the recorder after the write of a block, by whether it is done: with it the data have n bytes
abbrev pub after_block : Bool → ℕ → Recorder → Recorder
after_block true n r = record r { data_length = n; phase = Idle }
after_block false n r = record r { health = doubted r.health; phase = Cleaning }

-- | Writing | done | Idle, and the block counts |
-- | Writing | failed | Cleaning, and Suspect |
abbrev pub HasWritten : Bool → Recorder → Recorder → Result (Unit {0}) RecorderError → Type 0
HasWritten ok old new result = (n : ℕ) × (old.phase ≡ Writing n) × (old.has_rest ≡ false)
    × (new ≡ after_block ok n old) × (result ≡ Ok tt)

-- a checkpoint may be under way
abbrev pub MaySave : Phase → Type 0
MaySave Saving = Unit
MaySave (Requested n) = Unit
MaySave _ = ⊥

-- | Saving or Requested | done | the effect after that one is next |
-- | Saving or Requested | a write failed | Idle, and Suspect; the call returns `NeedsCheckpoint` |
-- | Saving or Requested | a sync failed | Idle, and Dead; the call returns `SyncFailed` |
abbrev pub HasPerformed : Bool → Recorder → Recorder → Result (Unit {0}) RecorderError → Type 0
HasPerformed ok old new result = MaySave old.phase × (old.has_rest ≡ false) × EndsEffect ok old new result

-- the table of what the report of an end makes of it
abbrev pub HasEnded : Bool → Recorder → Recorder → Result (Unit {0}) RecorderError → Type 0
HasEnded ok old new result = HadNothing old new result ⊎ HasCleaned old new result ⊎ HasCut old new result
    ⊎ HasWritten ok old new result ⊎ HasPerformed ok old new result

-- | any | none | as it was: the same is requested again |
abbrev pub Settles : Report → Recorder → Recorder → Result (Unit {0}) RecorderError → Type 0
Settles Pending old new result = (new ≡ old) × (result ≡ Ok tt)
Settles Done old new result = HasEnded true old new result
Settles Failed old new result = HasEnded false old new result

-- what the call for what comes next does
abbrev pub Advances : Report → Recorder → Recorder → Result (Option Action) RecorderError → Type 0
Advances report old new result = (mid : Recorder) × (outcome : Result (Unit {0}) RecorderError)
    × Settles report old mid outcome × ThenGoesOn outcome mid new result

-- Table: what a request makes of a recorder, by the phase (Phase, Request, the recorder then).
-- what was under way is given up; a checkpoint that was begun continues with the next one
-- | Writing | a block or a checkpoint | Suspect, and what the block left is to be cut off |
-- | Cleaning | a block or a checkpoint | what the block left is to be cut off |
-- | Requested | a block or a checkpoint | the block that was requested is dropped |
abbrev pub given_up : Phase → Recorder → Recorder
given_up (Writing n) r = record r { health = doubted r.health; phase = Idle; has_rest = true }
given_up Cleaning r = record r { phase = Idle; has_rest = true }
given_up phase r = record r { phase = Idle }

abbrev pub GivesUp : Recorder → Recorder → Type 0
GivesUp old new = new ≡ given_up old.phase old

-- then, where a checkpoint is requested
-- | any | a checkpoint | Saving |
abbrev pub AsksForCheckpoint : Report → Recorder → Recorder → Type 0
AsksForCheckpoint report old new = (mid end : Recorder) × (outcome : Result (Unit {0}) RecorderError)
    × Settles report old mid outcome × GivesUp mid end × (new ≡ record end { phase = Saving })

-- why a block of so many samples is rejected: after a failed sync no other error is returned
abbrev pub RejectsBlock : ℕ → Recorder → RecorderError → Type 0
RejectsBlock samples r SyncFailed = r.health ≡ Dead
RejectsBlock samples r UnfinishedFrame = IsAlive r × ((r.channels ≡ 0) ⊎ (samples % r.channels ≡ 0 → ⊥))
RejectsBlock samples r error = IsAlive r × HasNoData r (length_with r samples) error

-- | Saving | a block that is rejected | Saving, with the error: the checkpoint continues |
-- | any other | a block that is rejected | Idle, with the error |
abbrev pub once_rejected : Phase → Recorder → Recorder
once_rejected Saving end = record end { phase = Saving }
once_rejected phase end = end

-- then, where a block is requested, of whole frames that have room
-- | any | a block that has room | Requested |
abbrev pub TakesBlock : ℕ → Phase → Recorder → Recorder → Result (Unit {0}) RecorderError → Type 0
TakesBlock samples phase end new (Ok x) = IsAlive end × (1 ≤ end.channels) × (samples % end.channels ≡ 0)
    × HasData end (length_with end samples) × (new ≡ record end { phase = Requested (length_with end samples) })
TakesBlock samples phase end new (Err error) = RejectsBlock samples end error × (new ≡ once_rejected phase end)

-- what the call for a block does
abbrev pub AsksForBlock : Report → ℕ → Recorder → Recorder → Result (Unit {0}) RecorderError → Type 0
AsksForBlock report samples old new result = (mid end : Recorder) × (outcome : Result (Unit {0}) RecorderError)
    × Settles report old mid outcome × GivesUp mid end × TakesBlock samples mid.phase end new result
