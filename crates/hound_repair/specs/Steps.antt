-- A repair whose caller reads and writes the file.
use Rattle.std.specs.Prelude.{◌≡◌, ℕ, ◌^◌, min, ◌+◌, ◌-◌, ◌/◌, ◌≤◌, ◌<◌, ◌⊎◌, ⊤, MatchResult, Bool, not, true, false, ◌==◌, ◌||◌, ◌&&◌, List, [], ◌∷◌, ◌++◌, length, take, drop, Result, Ok, Err, Option, None, Some}
use Rattle.hound_spec.specs.{greatest_u32, riff_size}
use Rattle.hound_walk.specs.{Head, IsAt, IsDataPlace, IsSoundOption, IsSoundSpec, Rejected, part_length, part_start, parts_within}
use Rattle.hound_walk.specs.declared.cause.Cause.TheVariants as causes
use Rattle.hound_repair.specs.declared.look.SeenHead.{SeenHead}
use Rattle.std.specs.declared.io.Error.{Error as IoFault}
use Rattle.hound_number.specs.{bytes_of, mix}
use Rattle.hound_durable.specs.{SurvivesLoss}
use Rattle.hound_medium.specs.{Flushes, MediumState, moment, one_more}
use Rattle.hound_writer.specs.{AppendFault, IsIoError, NamesFault, PutsAt, PutsNothing, SameButSizes, by_bytes, field, nth, too_long}
use Rattle.hound_writer.specs.declared.effects.Effect.{Effect}
use Rattle.hound_writer.specs.declared.effects.Effect.TheVariants.{Sync, Pad, Size}
use Rattle.hound_repair.specs.Repairing.{FindsDamage, IsSoundDamage, repair_of, shown_of, HasUnfitHead, IsFoundAt, IsRepairFault, Repairs, found_length, is_mended, repair_fault, state_of, unfollowed_state}
use Rattle.hound_repair.specs.Held.{are_chunks, are_right, begins_chunk, counts_all, ends_with_id3, held, is_followed, is_sample, mended, missing_pad, shown_length}
use Rattle.hound_repair.specs.declared.look.Damage.{Damage}
use Rattle.hound_repair.specs.declared.look.Repair.{Repair}
use Rattle.hound_writer.specs.declared.resuming.RepairState.{RepairState}
use Rattle.hound_writer.specs.declared.resuming.RepairState.TheVariants.{HasChunksAfterData}
use Rattle.hound_repair.specs.declared.stages.Unrepairable.{Unrepairable}
use Rattle.hound_repair.specs.declared.stages.Unrepairable.TheVariants as reasons
use Rattle.hound_repair.specs.declared.stages.Stage.{Stage}
use Rattle.hound_repair.specs.declared.stages.Stage.TheVariants as stages
use Rattle.hound_spec.specs.declared.error.Error.{Error}
use Rattle.hound_writer.specs.declared.effects.Action.{Action}
use Rattle.hound_writer.specs.declared.effects.Action.TheVariants.{Read, Perform}
use Rattle.hound_writer.specs.declared.effects.Report.{Report}
use Rattle.hound_writer.specs.declared.effects.Report.TheVariants as reports
use Rattle.hound_writer.specs.declared.effects.Report.TheVariants.{Pending, Done}
use Rattle.hound_repair.specs.declared.machine.RepairStep.{RepairStep}
use Rattle.hound_repair.specs.declared.machine.RepairStep.TheVariants as steps
use Rattle.hound_repair.specs.declared.machine.RepairStep.TheVariants.{Asks}
use Rattle.hound_repair.specs.declared.machine.FailedAction.{FailedAction}
use Rattle.hound_repair.specs.declared.machine.FailedAction.TheVariants as failures
use Rattle.hound_repair.specs.declared.stages.Task.{Task}
use Rattle.hound_repair.specs.declared.stages.Task.TheVariants as tasks
use Rattle.hound_repair.specs.declared.stages.Task.TheVariants.{FindDamage, RepairToEnd}
use Rattle.hound_repair.specs.declared.machine.RepairError.{RepairError}
use Rattle.hound_repair.specs.declared.machine.RepairError.TheVariants as errors
use Rattle.hound_repair.specs.declared.machine.Repairing.{Repairing}
use Rattle.hound_repair.specs.declared.machine.Repairing.TheVariants as states
use Rattle.hound_repair.specs.declared.stages.LookStep.{LookStep}
use Rattle.hound_repair.specs.declared.stages.LookStep.TheVariants.{Next, Found}

-- where the part is that a look asks for, and how many bytes it has
abbrev pub stage_place : Stage → ℕ → ℕ
stage_place (stages.Head walk) length = part_start walk.part walk.taken
stage_place (stages.Last head) length = head.data_start + head.data_length
stage_place (stages.Chunk head place padded) length = place
stage_place (stages.Tag head) length = length - 128
stage_place (stages.Size head) length = 4

abbrev pub asked_count : Stage → ℕ
asked_count (stages.Head walk) = part_length walk.part
asked_count (stages.Last head) = 1
asked_count (stages.Chunk head place padded) = 8
asked_count (stages.Tag head) = 3
asked_count (stages.Size head) = 4

-- Table: which part of a file a look requests, by its stage (Stage, Bytes, Place).
-- | Head | as many as the next part of the header has | after the parts before |
-- | Last | 1 | after the data that the header counts |
-- | Chunk | 8 | after the data, or after the chunk before |
-- | Tag | 3 | 128 bytes before the end |
-- | Size | 4 | that of the RIFF size |
abbrev pub asks_for : Stage → ℕ → Action
asks_for stage n = Read (stage_place stage n) (asked_count stage)

-- the bytes that a look at a file of so many asks for: fewer only at its end
abbrev pub IsAsked : ℕ → Stage → List ℕ → List ℕ → Type 0
IsAsked n stage file bytes = bytes ≡ take (asked_count stage) (drop (stage_place stage n) file)

-- whether something follows the data of a file with this head
abbrev pub followed : List ℕ → SeenHead → Bool
followed file head = is_followed head.data_length (drop head.data_start file)

-- whether both sizes of a file with this head are right
abbrev pub has_right : List ℕ → SeenHead → Bool
has_right file head =
    are_right head.spec_ex head.data_start head.data_length (field 4 file)
    (shown_length head.data_start head.data_length file) (held head.data_start file)

-- whether the data length of a file with this head is right
abbrev pub has_all : List ℕ → SeenHead → Bool
has_all file head =
    counts_all head.spec_ex head.data_length
    (shown_length head.data_start head.data_length file) (held head.data_start file)

-- the data length that the file shows, unless it has more bytes than any RIFF size says
abbrev pub IsShown : List ℕ → SeenHead → Type 0
IsShown file head = length file < 2 ^ 33 → shown_of head ≡ shown_length head.data_start head.data_length file

-- a file with this head, after whose data chunks are looked for
pub record IsSearched (looks : Bool) (file : List ℕ) (head : SeenHead) : Type 0 where
  pub looks_for : looks ≡ true
  pub head_is : Head file head.spec_ex head.data_length head.data_start
  pub shown_is : IsShown file head

-- nothing that follows the data of a file with this head is found or looked for, unless it has more bytes than any RIFF
-- size says
abbrev pub IsNotFollowed : Bool → List ℕ → SeenHead → Type 0
IsNotFollowed looks file head = Head file head.spec_ex head.data_length head.data_start × IsShown file head
    × (length file < 2 ^ 33 → (looks && followed file head) ≡ false)

-- once no chunk begins after the data, an ID3v1 tag decides
abbrev pub tagged : List ℕ → SeenHead → Bool
tagged file head = ends_with_id3 head.data_length (drop head.data_start file)

abbrev pub IsAtEnd : Bool → List ℕ → SeenHead → Type 0
IsAtEnd looks file head = IsSearched looks file head × (followed file head ≡ tagged file head)

-- what decides if the bytes from a place on are no chunks: those without a pad byte before them, too
abbrev pub else_followed : Bool → List ℕ → SeenHead → Bool
else_followed true file head = begins_chunk (drop head.data_length (drop head.data_start file)) || tagged file head
else_followed false file head = tagged file head

-- something follows the data if the bytes from a place on are chunks, or else what decides then
abbrev pub IsAtChunk : Bool → List ℕ → SeenHead → ℕ → Bool → Type 0
IsAtChunk looks file head place padded = IsSearched looks file head
    × (followed file head ≡ (are_chunks (drop place file) || else_followed padded file head))

-- what is known of a file when a look asks for a part
abbrev pub IsAtStage : Bool → List ℕ → Stage → Type 0
IsAtStage looks file (stages.Head walk) = IsAt file walk
IsAtStage looks file (stages.Last head) = Head file head.spec_ex head.data_length head.data_start
    × (length file < 2 ^ 33 → held head.data_start file ≡ head.data_length + 1)
IsAtStage looks file (stages.Chunk head place padded) = IsAtChunk looks file head place padded
IsAtStage looks file (stages.Tag head) = IsAtEnd looks file head × (head.data_length + 128 ≤ held head.data_start file)
IsAtStage looks file (stages.Size head) = IsNotFollowed looks file head

-- so many bytes are in the file, or both are more than any RIFF size says
abbrev pub IsLengthOf : ℕ → List ℕ → Type 0
IsLengthOf n file = min n (2 ^ 33) ≡ min (length file) (2 ^ 33)

-- what was measured is that of the file, which fails no check
pub record IsMeasured (file : List ℕ) (d : Damage) : Type 0 where
  pub head_is : Head file d.head.spec_ex d.head.data_length d.head.data_start
  pub small : d.head.data_length ≤ greatest_u32
  pub held_is : d.held ≡ held d.head.data_start file
  pub shown_is : shown_of d.head ≡ shown_length d.head.data_start d.head.data_length file
  pub check : repair_fault d.head.spec_ex (shown_length d.head.data_start d.head.data_length file)
      d.head.data_start (held d.head.data_start file) ≡ None
  pub state : d.state ≡ unfollowed_state (has_all file d.head)

-- the fault of the bytes for which a file isn't repaired
abbrev pub rejected_for : Unrepairable → AppendFault
rejected_for (reasons.Head cause) = by_bytes cause
rejected_for reasons.Unsupported = by_bytes causes.Unsupported
rejected_for reasons.TooLong = too_long

-- the bytes have that fault: they have no head for its cause, or one that fails a check
abbrev pub IsRejectedFor : List ℕ → Unrepairable → Type 0
IsRejectedFor bytes (reasons.Head cause) = Rejected bytes cause
IsRejectedFor bytes reasons.Unsupported = HasUnfitHead bytes (by_bytes causes.Unsupported)
IsRejectedFor bytes reasons.TooLong = HasUnfitHead bytes too_long

-- what is measured of a file with a head, or its fault
abbrev pub MeasuresTo : List ℕ → Result Damage Unrepairable → Type 0
MeasuresTo file (Ok d) = IsMeasured file d
MeasuresTo file (Err why) = IsRejectedFor file why

-- how a file with this head is found
abbrev pub IsFoundAs : Bool → List ℕ → SeenHead → RepairState → Type 0
IsFoundAs looks file head state =
    state ≡ state_of (has_right file head) (looks && followed file head) (has_all file head)

-- where one part of the file leads: on, to what is found of the whole file, or to its fault
abbrev pub LooksTo : Bool → List ℕ → Result LookStep Unrepairable → Type 0
LooksTo looks file (Ok (Next stage)) = IsAtStage looks file stage
LooksTo looks file (Ok (Found d)) =
    IsFoundAt looks file (repair_of d) d.head.data_length d.head.data_start
    × (d.held ≡ held d.head.data_start file) × IsShown file d.head
LooksTo looks file (Err why) = IsRejectedFor file why

-- over every file: specs and places are those of a header
abbrev pub IsSoundHead : SeenHead → Type 0
IsSoundHead head = IsSoundSpec head.spec_ex × IsDataPlace head.data_start

abbrev pub IsSoundStage : Stage → Type 0
IsSoundStage (stages.Head walk) = IsSoundOption walk.found
IsSoundStage (stages.Last head) = IsSoundHead head
IsSoundStage (stages.Chunk head place padded) = IsSoundHead head
IsSoundStage (stages.Tag head) = IsSoundHead head
IsSoundStage (stages.Size head) = IsSoundHead head

abbrev pub IsSoundLook : LookStep → Type 0
IsSoundLook (Next stage) = IsSoundStage stage
IsSoundLook (Found d) = IsSoundDamage d

-- How many parts a look at a file of so many bytes may still ask for: a chunk has at least eight bytes. Those after the
-- data are looked for twice, with a pad byte before them and without.
abbrev pub steps_left : ℕ → Stage → ℕ
steps_left n (stages.Size head) = 1
steps_left n (stages.Tag head) = 2
steps_left n (stages.Chunk head place false) = 3 + (n - place) / 8
steps_left n (stages.Chunk head place true) = 4 + n / 8 + (n - place) / 8
steps_left n (stages.Last head) = 5 + n / 8 + n / 8
steps_left n (stages.Head walk) = 6 + n / 8 + n / 8 + parts_within n walk.part walk.taken

abbrev pub StageNearer : ℕ → ℕ → LookStep → Type 0
StageNearer n left (Next stage) = steps_left n stage < left
StageNearer n left (Found d) = ⊤

-- the head that is known when a look asks for a part; none before the data are found
abbrev pub head_of : Stage → Option SeenHead
head_of (stages.Head walk) = None
head_of (stages.Last head) = Some head
head_of (stages.Chunk head place padded) = Some head
head_of (stages.Tag head) = Some head
head_of (stages.Size head) = Some head

-- a head that is known later is the same one, and by the bytes after the data it is known whether they are a sample
abbrev pub StaysWith : List ℕ → Stage → Stage → Type 0
StaysWith bytes (stages.Head walk) next = ⊤
StaysWith bytes (stages.Last head) next = head_of next ≡ Some (record head { has_more = is_sample bytes })
StaysWith bytes stage next = head_of next ≡ head_of stage

-- what is found of a file of n bytes has the head that was known, and is inside of it; nothing is found before all of
-- the head is known
abbrev pub IsFoundFrom : ℕ → Stage → Damage → Type 0
IsFoundFrom n (stages.Head walk) d = ⊥
IsFoundFrom n (stages.Last head) d = ⊥
IsFoundFrom n stage d = (head_of stage ≡ Some d.head) × (d.head.data_start + d.held ≤ n)

-- where a part of a file of n bytes leads a look, whatever was read
abbrev pub IsLookFrom : ℕ → List ℕ → Stage → LookStep → Type 0
IsLookFrom n bytes stage (Next next) = StaysWith bytes stage next
IsLookFrom n bytes stage (Found d) = IsFoundFrom n stage d

-- where a file that was measured leads it
abbrev pub IsLookOf : Damage → LookStep → Type 0
IsLookOf d (Next next) = head_of next ≡ Some d.head
IsLookOf d (Found found) = (found.head ≡ d.head) × (found.held ≡ d.held)

-- the pad byte and its sync, where it is missing
abbrev pub pads : ℕ → List ℕ → List Effect
pads end [] = []
pads end (b ∷ bytes) = Pad end ∷ Sync ∷ []

-- The effects that mend a file whose data begin at `start`, hold n bytes and are to count so many: all that it counts
-- is synced first. The RIFF size comes first, so that a file whose data length is right is mended; then the data length
-- alone, and last a missing pad byte, which no data length takes for a sample then.
abbrev pub mending_effects : ℕ → ℕ → ℕ → List Effect
mending_effects start count n =
    Sync ∷ Size 4 (riff_size start count) ∷ Sync ∷ Size (start - 4) count ∷ Sync
    ∷ pads (start + n) (missing_pad count n)

-- the effects that mend a file of which this was found
abbrev pub mending : Damage → List Effect
mending d = mending_effects d.head.data_start d.sizes.data_length d.held

-- the effects that mend a file, or none
abbrev pub effects_where : Bool → Damage → List Effect
effects_where true d = mending d
effects_where false d = []

-- The contents wherever the effects stop: j low bytes of the data length are new, and any of the RIFF size. A pad byte
-- is there only after the whole data length, and only where it was missing.
pub record PartlyMended (start n : ℕ) (old new : List ℕ) : Type 0 where
  pub sizes : List ℕ
  pub j : ℕ
  pub within : j ≤ 4
  pub same : SameButSizes (start - 4) old sizes
  pub length_says : field (start - 4) sizes ≡ mix j (field (start - 4) old) n
  pub pad : List ℕ
  pub is : new ≡ sizes ++ pad
  pub last : 1 ≤ length pad → (field (start - 4) sizes ≡ n) × (pad ≡ missing_pad n (held start old))

-- what one effect did to a medium: at an Err a write may have written a beginning
abbrev pub PerformsOn : Bool → Effect → Result (Unit {0}) IoFault → MediumState → MediumState → Type 0
PerformsOn keeps Sync result old new = Flushes result old new
PerformsOn keeps (Pad at) result old new = PutsAt keeps at (0 ∷ []) result old new
PerformsOn keeps (Size at size) result old new = PutsAt keeps at (bytes_of 4 size) result old new

-- what effects did, one after the other, up to the first that failed
abbrev pub PerformedOn : Bool → List Effect → Result (Unit {0}) IoFault → MediumState → MediumState → Type 0
PerformedOn keeps [] result old new = (result ≡ Ok tt) × (new ≡ old)
PerformedOn keeps (effect ∷ effects) result old new =
    (mid : MediumState) × (this : Result (Unit {0}) IoFault) × PerformsOn keeps effect this old mid
    × MatchResult this (λ _. PerformedOn keeps effects result mid new)
    (λ fault. (result ≡ Err fault) × (new ≡ mid))

-- what the effects leave, up to the first that failed: at an Ok what `repair` leaves
abbrev pub LeavesMended : ℕ → ℕ → Result (Unit {0}) IoFault → List ℕ → MediumState → Type 0
LeavesMended start n result old new = PartlyMended start n old new.contents
    × (result ≡ Ok tt → (new.contents ≡ mended start n old) × (new.flushed ≡ length new.past))

-- a file that was looked at, by its caller
pub record IsLookedAt (looks : Bool) (bytes : List ℕ) (d : Damage) : Type 0 where
  pub sound : IsSoundDamage d
  pub found : IsFoundAt looks bytes (repair_of d) d.head.data_length d.head.data_start
  pub held_is : d.held ≡ held d.head.data_start bytes
  pub apart : d.state ≡ HasChunksAfterData → ⊥

-- what is left where the medium failed: all, or a file that is partly mended
abbrev pub LeavesPartly : Bool → MediumState → MediumState → Type 0
LeavesPartly looks old new = PutsNothing old new
    ⊎ ((found : Repair) × (len : ℕ) × (start : ℕ) × IsFoundAt looks old.contents found len start
    × (is_mended (not looks) found.state ≡ true) × PartlyMended start (found_length found) old.contents new.contents)

-- A file that isn't repaired, for a fault that its bytes have, and then nothing was written; or since the medium
-- failed.
pub record IsNotRepaired (looks : Bool) (old new : MediumState) (e : Error) : Type 0 where
  pub why : ((fault : AppendFault) × IsRepairFault old.contents fault × NamesFault e fault
      × PutsNothing old new × (new.faults ≡ old.faults))
      ⊎ (IsIoError e × LeavesPartly looks old new × (new.faults ≡ one_more old.faults))

-- what a repair of a medium leaves, by its result
abbrev pub RepairsMedium : {M : Type 0} → Bool → (M → MediumState) → M → Result (M × Repair) (M × Error) → Type 0
RepairsMedium looks state old result =
    MatchResult result (λ done. Repairs looks (state old) done.1 (state done.0))
    (λ rejected. IsNotRepaired looks (state old) (state rejected.0) rejected.1)

-- A repair of a medium is a look that writes nothing, and then its effects, one after the other, up to the first that
-- fails: those that mend the file, or none.
abbrev pub PerformsRepair : {M : Type 0} → Bool → Bool → (M → MediumState) → M
    → Result (M × Repair) (M × Error) → Type 0
PerformsRepair keeps looks state old result =
    MatchResult result
    (λ done. (d : Damage) × (mid : MediumState) × IsSoundDamage d × FindsDamage looks (state old) d mid
    × PerformedOn keeps (effects_where (is_mended (not looks) d.state) d) (Ok tt) mid (state done.0)
    × (done.1 ≡ repair_of d))
    (λ rejected. PutsNothing (state old) (state rejected.0)
    ⊎ ((d : Damage) × (mid : MediumState) × (fault : IoFault) × IsSoundDamage d × FindsDamage looks (state old) d mid
    × PerformedOn keeps (effects_where (is_mended (not looks) d.state) d) (Err fault) mid (state rejected.0)))

-- In each intermediate state nothing was written, or the file is partly mended, for the frames that were found in it.
abbrev pub MendsAtEach : Bool → MediumState → MediumState → Type 0
MendsAtEach looks old new = (new.past ≡ old.past)
    ⊎ ((found : Repair) × (len : ℕ) × (start : ℕ) × IsFoundAt looks old.contents found len start
    × (is_mended (not looks) found.state ≡ true)
    × ((k : ℕ) → length old.past ≤ k → k ≤ length new.past
    → PartlyMended start (found_length found) old.contents (moment new.start new.past k)))

abbrev pub MendsMedium : {M : Type 0} → Bool → (M → MediumState) → M → Result (M × Repair) (M × Error) → Type 0
MendsMedium looks state old result =
    MatchResult result (λ done. MendsAtEach looks (state old) (state done.0))
    (λ rejected. MendsAtEach looks (state old) (state rejected.0))

-- What a loss of power leaves of a file that was flushed at first is what there was, or the file partly mended, if each
-- size is within one sector.
abbrev pub MendsThroughLoss : Bool → MediumState → MediumState → Type 0
MendsThroughLoss looks old new = (sector : ℕ) (left : List ℕ) → old.flushed ≡ length old.past → 8 ≤ sector
    → SurvivesLoss sector new.start new.past new.flushed (length new.past) left →
    (left ≡ old.contents)
    ⊎ ((found : Repair) × (len : ℕ) × (start : ℕ) × IsFoundAt looks old.contents found len start
    × (is_mended (not looks) found.state ≡ true)
    × ((start - 4) / sector ≡ (start - 1) / sector → PartlyMended start (found_length found) old.contents left))

abbrev pub SurvivesMending : {M : Type 0} → Bool → (M → MediumState) → M → Result (M × Repair) (M × Error) → Type 0
SurvivesMending looks state old result =
    MatchResult result (λ done. MendsThroughLoss looks (state old) (state done.0))
    (λ rejected. MendsThroughLoss looks (state old) (state rejected.0))

-- a repair, between two calls, over every file
abbrev pub IsSoundRepairing : Repairing → Type 0
IsSoundRepairing (states.Looks stage) = IsSoundStage stage
IsSoundRepairing (states.Mends head number) = IsSoundHead head
IsSoundRepairing (states.Found head state) = IsSoundHead head
IsSoundRepairing (states.Failed failure) = ⊤

-- over every file: the sizes of what is found are right
abbrev pub IsSoundRepairStep : RepairStep → Type 0
IsSoundRepairStep (Asks action) = ⊤
IsSoundRepairStep (steps.Found d) = IsSoundDamage d

-- at a fault of the bytes a repair stays where it is, over every file
abbrev pub StaysAt : Result RepairStep RepairError → Repairing → Repairing → Type 0
StaysAt (Err (errors.Rejected why)) old new = new ≡ old
StaysAt _ old new = ⊤

-- whether chunks after the data are looked for
abbrev pub looks_for_chunks : Task → Bool
looks_for_chunks RepairToEnd = false
looks_for_chunks _ = true

-- whether a file that was found so is mended: one whose samples are all counted only to its end, or into the canonical
-- form
abbrev pub mends_for : Task → RepairState → Bool
mends_for FindDamage state = false
mends_for tasks.Repair state = is_mended false state
mends_for _ state = is_mended true state

-- a task that repairs a file as the two calls do
abbrev pub IsRepair : Task → Type 0
IsRepair task = (task ≡ tasks.Repair) ⊎ (task ≡ RepairToEnd)

-- what is to be done to a file that was found so
abbrev pub effects_of_task : Task → Damage → List Effect
effects_of_task task d = effects_where (mends_for task d.state) d

-- what it means that an effect failed
abbrev pub failure_of : Effect → FailedAction
failure_of Sync = failures.Sync
failure_of _ = failures.Call

-- Table: what a repairer requests, by what it does (It, Report, Then).
-- the effect with a number is requested, or all are done
abbrev pub AsksEffect : Task → Damage → ℕ → RepairStep → Repairing → Type 0
AsksEffect task d number (Asks action) new = (effect : Effect)
    × (nth (effects_of_task task d) number ≡ Some effect) × (action ≡ Perform effect)
    × (new ≡ states.Mends d.head number)
AsksEffect task d number (steps.Found found) new = (nth (effects_of_task task d) number ≡ None)
    × (found ≡ d) × (new ≡ states.Found d.head d.state)

-- where an effect leads whose number is given
-- | Mends | done | the next effect; after the last one what was found, and Found |
-- | Mends | none | the same effect again |
-- | Mends | failed | Failed, with the error that the effect has |
abbrev pub AsksAfter : Task → Damage → ℕ → Report → Option Effect → Repairing → Result RepairStep RepairError → Type 0
AsksAfter task d number Pending effect new result =
    MatchResult result (λ ask. AsksEffect task d number ask new) (λ _. ⊥)
AsksAfter task d number Done (Some effect) new result =
    MatchResult result (λ ask. AsksEffect task d (number + 1) ask new) (λ _. ⊥)
AsksAfter task d number reports.Failed (Some effect) new result =
    (result ≡ Err (errors.Failed (failure_of effect))) × (new ≡ states.Failed (failure_of effect))
AsksAfter task d number report None new result = MatchResult result (λ ask. AsksEffect task d number ask new) (λ _. ⊥)

abbrev pub AsksMore : Task → Damage → ℕ → Report → Repairing → Result RepairStep RepairError → Type 0
AsksMore task d number report new result =
    AsksAfter task d number report (nth (effects_of_task task d) number) new result

-- over each file of so many bytes of which the part was handed in that was requested
abbrev pub WhereRead : Task → ℕ → List ℕ → Stage → (List ℕ → Type 0) → Type 0
WhereRead task n bytes stage P = (file : List ℕ) → IsLengthOf n file
    → IsAtStage (looks_for_chunks task) file stage → IsAsked n stage file bytes → P file

-- these are no fewer bytes than a file of n has of the part that was requested
abbrev pub AreEnough : ℕ → Stage → List ℕ → Type 0
AreEnough n stage bytes = min (asked_count stage) (min n (2 ^ 33) - stage_place stage n) ≤ length bytes

-- What a part that was read leads to, whatever bytes were handed in. Where these are fewer than the file has, nothing
-- is found.
-- | Looks, and another part decides | done | that part, after which fewer are left |
-- | Looks, and the file is known | done | the first effect, and Mends; or what was found, and Found |
-- | Looks, at bytes that aren't repaired | done | their error, and stays as it is |
abbrev pub AsksPart : Task → ℕ → List ℕ → Stage → Repairing → Result RepairStep RepairError → Type 0
AsksPart task n bytes stage new (Ok ask) = AreEnough n stage bytes
    × (((next : Stage) × (new ≡ states.Looks next) × (ask ≡ Asks (asks_for next n))
    × (steps_left n next < steps_left n stage) × StaysWith bytes stage next
    × WhereRead task n bytes stage (λ file. IsAtStage (looks_for_chunks task) file next))
    ⊎ ((d : Damage) × IsSoundDamage d × IsFoundFrom n stage d × AsksEffect task d 0 ask new
    × WhereRead task n bytes stage (λ file.
    IsFoundAt (looks_for_chunks task) file (repair_of d) d.head.data_length d.head.data_start
    × (d.held ≡ held d.head.data_start file) × IsShown file d.head)))
AsksPart task n bytes stage new (Err (errors.Rejected why)) = (new ≡ states.Looks stage)
    × WhereRead task n bytes stage (λ file. IsRejectedFor file why)
AsksPart task n bytes stage new (Err (errors.Failed failure)) = ⊥

-- over each file of so many bytes of which this was found, as it was looked at
abbrev pub WhereFound : ℕ → SeenHead → (List ℕ → Type 0) → Type 0
WhereFound n head P = (file : List ℕ) → IsLengthOf n file
    → Head file head.spec_ex head.data_length head.data_start → IsShown file head → P file

-- a file that isn't whole, and whose data nothing follows, was found so
abbrev pub IsUnfollowed : Damage → Type 0
IsUnfollowed d = d.state ≡ unfollowed_state (d.head.data_length == d.sizes.data_length)

-- what is measured again of a file, and what then holds, whatever has become of it
abbrev pub Remeasures : ℕ → SeenHead → Repairing → Repairing → Result RepairStep RepairError
    → (Damage → Type 0) → Type 0
Remeasures n head old new result P =
    ((d : Damage) × IsSoundDamage d × IsUnfollowed d × (d.head ≡ head) × P d
    × WhereFound n head (λ file. IsMeasured file d))
    ⊎ ((why : Unrepairable) × (result ≡ Err (errors.Rejected why)) × (new ≡ old)
    × WhereFound n head (λ file. IsRejectedFor file why))

-- what comes of a part, by how its read has ended
-- | Looks | none | the same part again |
-- | Looks | failed | Failed, with the error of a call that wasn't performed |
abbrev pub AsksOfLook : Task → ℕ → List ℕ → Stage → Repairing → Result RepairStep RepairError → Report → Type 0
AsksOfLook task n bytes stage new result Pending = (new ≡ states.Looks stage) × (result ≡ Ok (Asks (asks_for stage n)))
AsksOfLook task n bytes stage new result Done = AsksPart task n bytes stage new result
AsksOfLook task n bytes stage new result reports.Failed =
    (result ≡ Err (errors.Failed failures.Call)) × (new ≡ states.Failed failures.Call)

-- What a call leads to, whatever is handed in. What is found is that of each file of which the parts were read.
-- | Found | any | what was found again |
-- | Failed | any | the same error again |
abbrev pub AsksNext : Task → ℕ → List ℕ → Report → Repairing → Repairing → Result RepairStep RepairError → Type 0
AsksNext task n bytes report (states.Looks stage) new result = AsksOfLook task n bytes stage new result report
AsksNext task n bytes report (states.Mends head number) new result =
    Remeasures n head (states.Mends head number) new result (λ d. AsksMore task d number report new result)
AsksNext task n bytes report (states.Found head state) new result = (new ≡ states.Found head state)
    × Remeasures n head (states.Found head state) new result
    (λ d. result ≡ Ok (steps.Found (record d { state = state })))
AsksNext task n bytes report (states.Failed failure) new result =
    (result ≡ Err (errors.Failed failure)) × (new ≡ states.Failed failure)

-- how many effects a repair still requests, at most: parts of a file of n bytes, then up to seven that mend it
abbrev pub effects_left : ℕ → Repairing → ℕ
effects_left n (states.Looks stage) = 8 + steps_left n stage
effects_left n (states.Mends head number) = 7 - number
effects_left n _ = 0
