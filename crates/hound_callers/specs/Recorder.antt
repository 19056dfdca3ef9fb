-- What callers do that perform a recorder's effects themselves.
use Rattle.std.specs.Prelude.{
  ◌≡◌,
  ◌⊎◌,
  ℕ,
  ◌+◌,
  ◌-◌,
  ◌*◌,
  ◌/◌,
  ◌%◌,
  ◌<◌,
  ◌≤◌,
  ◌^◌,
  ◌&&◌,
  Option,
  Bool,
  true,
  false,
  List,
  [],
  ◌∷◌,
  ◌++◌,
  length,
  take,
  drop,
  codes,
  Result,
  Ok,
  Err,
  is_ok,
  suc,
  nat_le,
  if◌then◌else◌,
}
use Rattle.std.specs.declared.io.Error.{Error as IoFault}
use Rattle.std.specs.Borrow.{Bor}
use Rattle.std.specs.List.{AllByRecursion, flat_map}
use Rattle.hound.specs.{
  IsEmpty,
  LeavesBeginning,
  Remains,
  recorder_of,
  stores_name,
  Action,
  AppendsRecorder,
  Counts,
  DoesBeginnings,
  Ghosts,
  IsIoError,
  IsWritable,
  WhereTells,
  beginning,
  data_start,
  Kept,
  accepted_by_all,
  SurvivesLoss,
  accepted_samples,
  field,
  mix,
  FoundFile,
  HasData,
  Head,
  IsAlive,
  IsSoundSpec,
  LeavesWriter,
  Resumes,
  mark_of,
  resumed_file,
  writer_of,
  Asked,
  Begun,
  Directed,
  Error,
  Flushes,
  IsRejection,
  IsSaid,
  KeptWithin,
  Known,
  Log,
  MediumState,
  NoFault,
  Performed,
  Phase,
  PutsAt,
  ReadsAs,
  Readable,
  Repeats,
  Recorder,
  RecorderError,
  Rejection,
  Report,
  Unreadable,
  WavSpecEx,
  bytes_of,
  effects_of,
  found_in,
  greatest_u32,
  if_marked,
  log_kind,
  padded,
  publish,
  riff_size,
  seen,
  start_of,
  whole_containers,
  write,
  one_more,
  WhereKeeps,
  at_beginning,
  new_file,
}
use Rattle.hound.specs.declared.Action.TheVariants.{Shorten, Perform, Read, WriteBlock}
use Rattle.hound.specs.declared.Effect.TheVariants.{Pad, Size, Sync}
use Rattle.hound.specs.declared.Health.TheVariants.{Sound}
use Rattle.hound.specs.declared.Phase.TheVariants.{Idle, Saving, Requested}
use Rattle.hound.specs.declared.RecorderError.TheVariants.{Truncated, NeedsCheckpoint, NeedsOverwrite, SyncFailed}
use Rattle.hound.specs.declared.Report.TheVariants.{Done, Failed, Pending}
use Rattle.hound.specs.declared.Error.TheVariants.{FormatError, Unsupported}
use Rattle.hound_callers.specs.Recording.{published_calls}

-- how an action ended, by whether all of it was done
abbrev pub report_for : Bool → Report
report_for true = Done
report_for false = Failed

-- the bytes that an action writes, and their place
abbrev pub bytes_for : Action → List ℕ → List ℕ
bytes_for (Perform (Pad at)) block = 0 ∷ []
bytes_for (Perform (Size at size)) block = bytes_of 4 size
bytes_for (WriteBlock at len) block = block
bytes_for _ block = []

abbrev pub place_for : Action → ℕ
place_for (Perform (Pad at)) = at
place_for (Perform (Size at size)) = at
place_for (WriteBlock at len) = at
place_for _ = 0

-- the end of a write is reported, or the report is lost
abbrev pub IsReportOf : {T E : Type 0} → Result T E → Report → Type 0
IsReportOf result report = (report ≡ Pending) ⊎ (report ≡ report_for (is_ok result))

-- What a caller does for an action, and how it reports it. The report of a write may be lost; a sync is reported as
-- done only if it is. A medium is neither read nor cut off.
abbrev pub TriesAction : Action → List ℕ → Report → MediumState → MediumState → Type 0
TriesAction (Perform Sync) block report old new = (result said : Result (Unit {0}) IoFault)
    × IsSaid said result × (report ≡ report_for (is_ok said)) × Flushes result old new
TriesAction (Read at len) block report old new = new ≡ old
TriesAction (Shorten at) block report old new = new ≡ old
TriesAction action block report old new = (result : Result (Unit {0}) IoFault) × IsReportOf result report
    × PutsAt true (place_for action) (bytes_for action block) result old new

-- a file as a recorder directed it, where effects may have been performed again
abbrev pub IsDirected : WavSpecEx → Begun → List Known → Recorder → MediumState → Type 0
IsDirected s file known r m = (once : MediumState) × Directed s file known r once × Repeats once m

-- nothing of a block is under way
abbrev pub IsFree : Phase → Type 0
IsFree Idle = Unit
IsFree Saving = Unit
IsFree _ = ⊥

-- a recorder of which nothing failed, and that has begun nothing
abbrev pub IsReady : Recorder → Type 0
IsReady r = (r.number ≡ 0) × (r.health ≡ Sound) × IsFree r.phase × (r.has_rest ≡ false)
    × (20 ≤ r.data_start) × (1 ≤ r.channels) × (1 ≤ r.bytes_per_sample)

-- a recorder was requested a checkpoint, or, where nothing failed, a block of so many bytes
abbrev pub HasRequest : Recorder → ℕ → Type 0
HasRequest r n = (r.number ≡ 0) × IsAlive r × (r.has_rest ≡ false)
    × ((r.phase ≡ Saving) ⊎ ((r.phase ≡ Requested (r.data_length + n)) × (r.health ≡ Sound)))

-- how many bytes the data have once that is done
abbrev pub length_after : Phase → Recorder → ℕ
length_after (Requested length) r = length
length_after _ r = r.data_length

-- the recorder then
abbrev pub once_done : Recorder → Recorder
once_done r = record r { data_length = length_after r.phase r; number = 0; health = Sound; phase = Idle }

-- Why a file isn't begun, and what it holds then: its spec can't be written, and the medium is as it was; or an effect
-- of its beginning has failed, by a fault that the medium counted.
abbrev pub IsNotBegunBy : {M : Type 0} → Ghosts M → WavSpecEx → M → M → Error → Type 0
IsNotBegunBy kind s old new e = ((IsWritable s → ⊥) × (e ≡ Unsupported) × (new ≡ old))
    ⊎ (IsWritable s × IsIoError e × WhereTells kind.tells (((kind.state new).faults ≡ one_more (kind.state old).faults)
    × (IsEmpty kind.keeps (kind.state old) → (fault : IoFault)
    × DoesBeginnings kind.keeps s beginning (Err fault) (kind.state old) (kind.state new))))

-- a loss of power leaves at most the header of a file without bytes that is being begun, or, until it is, no file
abbrev pub LosesBeginning : {T E : Type 0} → WavSpecEx → Result T E → MediumState → MediumState → Type 0
LosesBeginning s result old new = IsEmpty true old → (sector : ℕ) (left : Option (List ℕ))
    → Remains (is_ok result && stores_name beginning) sector new left → LeavesBeginning result s left

-- the effects of a checkpoint were performed, up to the first that failed, where this is an error
abbrev pub PerformsAll : {T E : Type 0} → Recorder → Log → Result T E → MediumState → Type 0
PerformsAll r start result m = (end : Log) × (performed : Result (Unit {0}) IoFault)
    × (is_ok performed ≡ is_ok result) × Performed (effects_of r) performed start end × Repeats end.state m

-- the samples of a block
abbrev pub samples_of : WavSpecEx → Bor (List ℕ) → Result (List (List ℕ)) Rejection
samples_of s block = whole_containers s block.now

-- what was requested, with a block of these bytes
abbrev pub asked_in : Phase → WavSpecEx → List ℕ → Asked
asked_in Saving s bytes = publish
asked_in _ s bytes = write (whole_containers s bytes)

abbrev pub asked_as : WavSpecEx → Recorder → List ℕ → Asked
asked_as s r bytes = asked_in r.phase s bytes

-- a recorder can't take this block: it is no whole frames, or the sizes would pass 32 bits
abbrev pub IsBlockRejected : Recorder → Bor (List ℕ) → Type 0
IsBlockRejected r block = (length block.now % r.bytes_per_sample ≡ 0 → ⊥)
    ⊎ (length block.now / r.bytes_per_sample % r.channels ≡ 0 → ⊥)
    ⊎ (greatest_u32 < riff_size r.data_start (r.data_length + length block.now))

-- a medium counts the calls that fail, as far as 64 bits do
abbrev pub CountsFaults : MediumState → MediumState → Type 0
CountsFaults old new = old.faults ≤ 2 ^ 64 - 1 → (old.faults ≤ new.faults) × (new.faults ≤ 2 ^ 64 - 1)

-- no report is lost
abbrev pub AreAllKept : List Bool → Type 0
AreAllKept lost = AllByRecursion (λ is_lost. is_lost ≡ false) lost

-- an action that a medium performs: it isn't read or cut off
abbrev pub IsPerformable : Action → Type 0
IsPerformable (Perform effect) = Unit
IsPerformable (WriteBlock at len) = Unit
IsPerformable _ = ⊥

-- the error of an action that has failed
abbrev pub IsFailure : RecorderError → Type 0
IsFailure NeedsCheckpoint = Unit
IsFailure SyncFailed = Unit
IsFailure _ = ⊥

-- how many bytes these blocks have
abbrev pub total_length : List (Bor (List ℕ)) → ℕ
total_length [] = 0
total_length (block ∷ blocks) = length block.now + total_length blocks

-- no block is left, or the recorder rejects the next one
abbrev pub TakesNoMore : Recorder → List (Bor (List ℕ)) → Type 0
TakesNoMore r [] = Unit
TakesNoMore r (block ∷ blocks) = IsBlockRejected r block

-- the first n of these blocks follow the data of a recorder, and it takes no more
abbrev pub IsFull : Recorder → List (Bor (List ℕ)) → ℕ → Type 0
IsFull r blocks n = TakesNoMore (record r { data_length = r.data_length + total_length (take n blocks) }) (drop n
    blocks)

-- what holds unless a call failed or a report was lost
abbrev pub UnlessFault : Bool → List Bool → MediumState → MediumState → Type 0 → Type 0
UnlessFault tells lost old new P = AreAllKept lost → WhereTells tells (NoFault old new → P)

-- the calls of a block that wasn't saved, and their marks: none, a write that failed, or a checkpoint that did
abbrev pub StopsIn : WavSpecEx → Recorder → Bor (List ℕ) → List (Asked × Bool) → Type 0
StopsIn s r block calls = (IsBlockRejected r block × (calls ≡ [])) ⊎ (calls ≡ (write (samples_of s block), false) ∷ [])
    ⊎ (calls ≡ (write (samples_of s block), true) ∷ (publish, false) ∷ [])

-- those after which the first of these blocks wasn't saved
abbrev pub StopsSaving : WavSpecEx → Recorder → List (Bor (List ℕ)) → List (Asked × Bool) → Type 0
StopsSaving s r [] calls = calls ≡ []
StopsSaving s r (block ∷ blocks) calls = StopsIn s r block calls

-- after these calls the saving of a block has stopped
abbrev pub Stops : WavSpecEx → Begun → List Known → Bor (List ℕ) → Recorder → MediumState → Type 0
Stops s file known block r m = (calls : List (Asked × Bool)) × StopsIn s r block calls
    × (r.number ≡ 0) × IsDirected s file (known ++ seen calls) r m

-- an error of the format with this text
abbrev pub SaysFormat : List ℕ → Error → Type 0
SaysFormat said (FormatError text) = text.now ≡ said
SaysFormat said _ = ⊥

-- the error for one of a recorder
abbrev pub IsErrorOf : RecorderError → Error → Type 0
IsErrorOf Truncated e = SaysFormat (codes "the data are cut off") e
IsErrorOf NeedsOverwrite e = SaysFormat (codes "more follows the data") e
IsErrorOf _ e = e ≡ Unsupported

-- Why a file with these contents isn't recorded further: they can't be read, no recorder begins with them, they lack
-- data that the header counts, or more than a pad byte follows.
abbrev pub IsNotResumed : List ℕ → Error → Type 0
IsNotResumed contents e = IsRejection e (Unreadable contents)
    ⊎ ((s : WavSpecEx) × (samples start : ℕ) × Readable contents s samples start
    × (((error : RecorderError) × AppendsRecorder s start (samples * s.bytes_per_sample) (Err error)
    × (e ≡ Unsupported))
    ⊎ ((length contents < start + samples * s.bytes_per_sample) × SaysFormat (codes "the data are cut off") e)
    ⊎ ((start + padded (samples * s.bytes_per_sample) < length contents)
    × SaysFormat (codes "more follows the data") e)))

-- the file is read as its samples and then these blocks, if they are whole frames
abbrev pub ReadsBlocks : WavSpecEx → Begun → List (Bor (List ℕ)) → List ℕ → Type 0
ReadsBlocks s file blocks contents =
    let list = found_in file ++ flat_map (λ block. if_marked true (samples_of s block)) blocks in
    length list % s.spec.channels ≡ 0 → ReadsAs s (start_of s file) list contents

-- So many of these blocks were saved, each by a write and a checkpoint, and then a recorder stopped at the next one.
-- Whatever sectors keep what was written since the file was synced, what is left counts, and has lost no sample of a
-- checkpoint: so it is where each effect was performed once, and no other state was there. Unless a checkpoint failed,
-- the file is read as those blocks.
abbrev pub Saves : WavSpecEx → Begun → List (Bor (List ℕ)) → ℕ → MediumState → Type 0
Saves s file blocks n m = (more : List (Asked × Bool)) × (r : Recorder) × (log : Log) × Repeats log.state m
    × StopsSaving s r (drop n blocks) more
    × Directed s file (seen (published_calls (samples_of s) (take n blocks) ++ more)) r log.state
    × KeptWithin log_kind s file (seen (published_calls (samples_of s) (take n blocks) ++ more)) log log.state
    × (AllByRecursion (λ (one : Known). one.asked ≡ publish → ⊥) (seen more) → 0 < n →
    ReadsBlocks s file (take n blocks) m.contents)

-- a recorder that continues a file, with nothing under way
abbrev pub IsResumed : Recorder → Type 0
IsResumed r = (r.number ≡ 0) × IsAlive r × (r.phase ≡ Idle) × HasData r r.data_length

-- the same once its file is mended
abbrev pub once_mended : Recorder → Recorder
once_mended r = record r { number = 0; health = Sound; phase = Idle; has_rest = false }

-- a file was found as this says: it has such a head, and so many bytes
pub record IsFound (f : FoundFile) (m : MediumState) : Type 0 where
  pub sound : IsSoundSpec f.spec_ex
  pub head : Head m.contents f.spec_ex f.data_length f.data_start
  pub all : f.length ≡ length m.contents

-- A loss of power within the first checkpoint of a recorder that continues such a file leaves one that counts no more
-- than the samples that the recorder keeps: all of them, or as many as the header did before, unless only some bytes of
-- the data length are new.
abbrev pub CountsAfterLoss : FoundFile → Recorder → Log → Log → Type 0
CountsAfterLoss f r start end = (sector : ℕ) (left : List ℕ) → 1 ≤ sector
    → (f.data_start - 4) / sector ≡ (f.data_start - 1) / sector
    → SurvivesLoss sector end.state.start end.state.past end.state.flushed (length end.state.past) left
    → Counts f.spec_ex f.data_start (accepted_samples log_kind.state (writer_of f.spec_ex r start)) left
    × ((j : ℕ) × (j ≤ 4) × (field (f.data_start - 4) left ≡ mix j f.data_length r.data_length))

-- That checkpoint was performed, to its end or not: it has published the samples that the recorder keeps, as a `flush`
-- does, where all of it is done.
abbrev pub MakesFirstCheckpoint : FoundFile → Recorder → Bool → MediumState → Log → Type 0
MakesFirstCheckpoint f r done old end = (start : Log) × (answer : Result (Unit {0}) Error) × Resumes f true false (Ok r)
    × (start.state ≡ old) × (mark_of answer ≡ done)
    × LeavesWriter log_kind answer (writer_of f.spec_ex r start) (writer_of f.spec_ex r end)
    × CountsAfterLoss f r start end

-- a recorder doesn't continue such a file
abbrev pub IsNotContinued : FoundFile → RecorderError → Type 0
IsNotContinued f error = Resumes f true false (Err error)

-- the first checkpoint has failed
abbrev pub IsNotMended : FoundFile → MediumState → MediumState → Type 0
IsNotMended f old new = (r : Recorder) × (end : Log) × MakesFirstCheckpoint f r false old end × Repeats end.state new

-- The first checkpoint published what the file holds, and blocks were saved after that.
abbrev pub Continues : FoundFile → MediumState → List (Bor (List ℕ)) → ℕ → MediumState → Type 0
Continues f old blocks n new = (r : Recorder) × (end : Log) × (samples : ℕ) × MakesFirstCheckpoint f r true old end
    × (r.data_length ≡ samples * f.spec_ex.bytes_per_sample)
    × Saves f.spec_ex (resumed_file f.spec_ex samples f.data_start end.state) blocks n new

-- these contents count the samples of calls that led to such a file
abbrev pub CountsDirected : WavSpecEx → Begun → List Known → MediumState → List ℕ → Type 0
CountsDirected s file known m contents = (log : Log) × (log.state ≡ m) × (kept : Kept log_kind s file known log)
    × Counts s (start_of s file) (found_in file ++ accepted_by_all kept.left.recorded.calls) contents

-- how many of these blocks, from the first on, have so many bytes at most in all
abbrev pub run_within : List (Bor (List ℕ)) → ℕ → ℕ
run_within [] most = 0
run_within (block ∷ blocks) most =
    if nat_le (length block.now) most then suc (run_within blocks (most - length block.now)) else 0

-- A part of a recording. Of the next blocks those that have so many bytes at most in all are for it, so the one after
-- them has no room. Either it couldn't be begun, and none was saved; or it is a new file in which so many of them were
-- saved: all, or those before one at which a recorder stopped, because it was rejected or a call failed; and only
-- because it was rejected, unless a call failed or a report was lost.
abbrev pub IsPart : {M : Type 0} → Ghosts M → WavSpecEx → ℕ → List Bool → List (Bor (List ℕ)) → M → M → ℕ → Type 0
IsPart kind s most lost blocks old new n = ((n ≡ 0) × ((e : Error) × IsNotBegunBy kind s old new e))
    ⊎ (WhereKeeps kind.tells kind.keeps (IsEmpty kind.keeps (kind.state old)
    → Saves s (new_file (at_beginning (kind.state old))) (take (run_within blocks most) blocks) n (kind.state new))
    × UnlessFault kind.tells lost (kind.state old) (kind.state new)
    (IsFull (recorder_of s (data_start s) 0) (take (run_within blocks most) blocks) n))

-- The parts of a recording, as their media were before and as they are now. In each the next blocks were saved, n in
-- all.
abbrev pub AreParts : {M : Type 0} → Ghosts M → WavSpecEx → ℕ → List Bool → List (Bor (List ℕ)) → List M → List M → ℕ
    → Type 0
AreParts kind s most lost blocks [] [] n = n ≡ 0
AreParts kind s most lost blocks (old ∷ olds) (new ∷ news) n = (first rest : ℕ) × (n ≡ first + rest)
    × IsPart kind s most lost blocks old new first × AreParts kind s most lost (drop first blocks) olds news rest
AreParts kind s most lost blocks _ _ n = ⊥
