-- What a file is found as, and what repairing it leaves.
use Rattle.std.specs.Prelude.{◌≡◌, ℕ, ◌+◌, ◌-◌, ◌*◌, ◌/◌, ◌%◌, ◌≤◌, ◌⊎◌, Bool, true, false, ◌&&◌, not, nat_lt, if◌then◌else◌, ⊤, List, length, take, drop, Option, Some, None, Result, ◌^◌, [], ◌∷◌}
use Rattle.hound_spec.specs.declared.error.Error.{Error}
use Rattle.hound_spec.specs.declared.spec.WavSpecEx.{WavSpecEx}
use Rattle.hound_spec.specs.{greatest_u32, riff_size, is_pair}
use Rattle.hound_medium.specs.{MediumState, faults_after, one_more, unknown}
use Rattle.hound_sample.specs.{containers}
use Rattle.hound_walk.specs.declared.cause.Cause.{Cause}
use Rattle.hound_walk.specs.declared.cause.Cause.TheVariants.{Unsupported}
use Rattle.hound_walk.specs.{Head, Readable, Rejected, IsDataPlace, IsSoundSpec}
use Rattle.hound_writer.specs.{IsIoError, AppendFault, by_bytes, too_long, NamesFault, PutsNothing, field}
use Rattle.hound_repair.specs.Held.{counts_all, is_followed, are_right, frame_length, frames_held, held, mended, right_length, shown_length, torn_bytes, missing_pad}
use Rattle.hound_repair.specs.declared.look.Repair.{Repair}
use Rattle.hound_writer.specs.declared.resuming.RepairState.{RepairState}
use Rattle.hound_writer.specs.declared.resuming.RepairState.TheVariants.{Whole, CutOff, HasChunksAfterData, AllCounted}
use Rattle.hound_repair.specs.declared.look.Damage.{Damage}
use Rattle.hound_repair.specs.declared.look.SeenHead.{SeenHead}
use Rattle.hound_repair.specs.declared.look.Sizes.{Sizes}

-- the fault of a head that holds so many bytes, of samples that are written: the RIFF size of its whole frames doesn't
-- fit
unfoldable pub size_fault : WavSpecEx → ℕ → ℕ → ℕ → Option AppendFault
size_fault s len start n = if nat_lt greatest_u32 (riff_size start (right_length s len n)) then Some too_long else None

-- The first check that a head fails which holds so many bytes: samples that are written, a RIFF size that fits.
unfoldable pub repair_fault : WavSpecEx → ℕ → ℕ → ℕ → Option AppendFault
repair_fault s len start n =
    if not (is_pair s.spec.sample_format s.spec.bits_per_sample s.bytes_per_sample)
    then Some (by_bytes Unsupported)
    else size_fault s len start n

-- the bytes have a head, whose first check that fails has this fault
abbrev pub HasUnfitHead : List ℕ → AppendFault → Type 0
HasUnfitHead bytes fault = (s : WavSpecEx) × (len : ℕ) × (start : ℕ) × Head bytes s len start
    × (repair_fault s (shown_length start len bytes) start (held start bytes) ≡ Some fault)

-- the bytes have this fault: they have no head for this cause, or their head fails a check
abbrev pub IsRepairFault : List ℕ → AppendFault → Type 0
IsRepairFault bytes fault =
    ((cause : Cause) × (fault ≡ by_bytes cause) × Rejected bytes cause) ⊎ HasUnfitHead bytes fault

-- how a file is found that isn't whole, and whose data nothing follows, by whether its data length is right
abbrev pub unfollowed_state : Bool → RepairState
unfollowed_state true = AllCounted
unfollowed_state false = CutOff

-- how a file is found, by whether both sizes are right and no pad byte is missing, whether chunks follow the data, and
-- whether the data length is right
abbrev pub state_of : Bool → Bool → Bool → RepairState
state_of right true counted = HasChunksAfterData
state_of true false counted = Whole
state_of false false counted = unfollowed_state counted

-- Whether a file that was found so is mended: one that was cut off, and one whose samples are all counted only on
-- request.
abbrev pub is_mended : Bool → RepairState → Bool
is_mended all CutOff = true
is_mended all AllCounted = all
is_mended all _ = false

-- the frames, and the bytes of a torn one, that are reported: those that are held, or where chunks follow the data
-- those that the data length says
abbrev pub frames_found : RepairState → WavSpecEx → ℕ → ℕ → ℕ → ℕ
frames_found HasChunksAfterData s len shown n = len / frame_length s
frames_found _ s len shown n = frames_held s shown n

abbrev pub torn_found : RepairState → WavSpecEx → ℕ → ℕ → ℕ → ℕ
torn_found HasChunksAfterData s len shown n = len % frame_length s
torn_found _ s len shown n = torn_bytes s shown n

-- What is found of contents with this head: a spec that is written, sizes that fit, how they were, and so many frames.
-- Chunks after the data are looked for, or all that is held is taken for data.
pub record IsFoundAt (looks : Bool) (contents : List ℕ) (found : Repair) (len start : ℕ) : Type 0
  where
    pub head : Head contents found.spec_ex len start
    pub small : len ≤ greatest_u32
    pub check : repair_fault found.spec_ex (shown_length start len contents) start (held start contents) ≡ None
    pub state : found.state ≡ state_of (are_right found.spec_ex start len (field 4 contents)
        (shown_length start len contents) (held start contents))
        (looks && is_followed len (drop start contents))
        (counts_all found.spec_ex len (shown_length start len contents) (held start contents))
    pub frames : found.frames ≡ frames_found found.state found.spec_ex len (shown_length start len contents)
        (held start contents)
    pub left_over : found.left_over ≡ torn_found found.state found.spec_ex len (shown_length start len contents)
        (held start contents)

-- something looked at a medium: nothing was written, and a call that failed counts one fault
pub record Looks {T E : Type 0} (result : Result T E) (old new : MediumState) : Type 0 where
  pub puts : PutsNothing old new
  pub faults : new.faults ≡ faults_after result old.faults

-- a file that is looked at: what is found, and nothing is written
pub record Finds (looks : Bool) (old : MediumState) (found : Repair) (new : MediumState) : Type 0
  where
    pub len : ℕ
    pub start : ℕ
    pub is : IsFoundAt looks old.contents found len start
    pub puts : PutsNothing old new
    pub faults : new.faults ≡ old.faults

-- A file that is looked at and not found, for a fault that its bytes have, or since the medium failed.
pub record IsNotFound (old new : MediumState) (e : Error) : Type 0 where
  pub puts : PutsNothing old new
  pub why : ((fault : AppendFault) × IsRepairFault old.contents fault × NamesFault e fault × (new.faults ≡ old.faults))
      ⊎ (IsIoError e × (new.faults ≡ one_more old.faults))

-- the data length of the frames that were found
abbrev pub found_length : Repair → ℕ
found_length found = found.frames * frame_length found.spec_ex

-- what is left in a medium by whether its file is mended: the mended contents, flushed, or what there was
abbrev pub LeavesFor : Bool → Repair → ℕ → MediumState → MediumState → Type 0
LeavesFor true found start old new =
    (new.contents ≡ mended start (found_length found) old.contents)
    × (new.flushed ≡ length new.past)
LeavesFor false found start old new = PutsNothing old new

-- Contents with the right data length for these frames: they are read with this spec, with exactly these frames.
pub record HasRightLength (found : Repair) (start : ℕ) (contents : List ℕ) : Type 0 where
  pub length_says : field (start - 4) contents ≡ found_length found
  pub readable : Readable contents found.spec_ex (found.frames * found.spec_ex.spec.channels) start

-- P, unless chunks follow the data
abbrev pub UnlessFollowed : RepairState → Type 0 → Type 0
UnlessFollowed HasChunksAfterData P = ⊤
UnlessFollowed _ P = P

-- What an Ok `repair` leaves: what was found, and where the file is mended the right sizes, and nothing else but a pad
-- byte after all that the file held. A file whose samples are all counted is mended only where no chunks are looked
-- for. Unless chunks follow the data the file is read with exactly the frames that were found, and the RIFF size is
-- right, too, of a file that was whole or is mended.
pub record Repairs (looks : Bool) (old : MediumState) (found : Repair) (new : MediumState) : Type 0
  where
    pub len : ℕ
    pub start : ℕ
    pub is : IsFoundAt looks old.contents found len start
    pub leaves : LeavesFor (is_mended (not looks) found.state) found start old new
    pub sizes : UnlessFollowed found.state (HasRightLength found start new.contents)
    pub riff : (found.state ≡ Whole) ⊎ (is_mended (not looks) found.state ≡ true)
        → field 4 new.contents ≡ riff_size start (found_length found)
    pub faults : new.faults ≡ old.faults

-- the first of these samples, as many as whole frames have
abbrev pub whole_frames : WavSpecEx → List (List ℕ) → List (List ℕ)
whole_frames s list = take (length list / s.spec.channels * s.spec.channels) list

-- A file that was repaired is read with exactly the frames that were found, and of these samples as many as whole
-- frames have are read first.
pub record ReadsFrames (found : Repair) (start : ℕ) (list : List (List ℕ)) (contents : List ℕ) : Type 0 where
  pub readable : Readable contents found.spec_ex (found.frames * found.spec_ex.spec.channels) start
  pub among : length (whole_frames found.spec_ex list) ≤ found.frames * found.spec_ex.spec.channels
  pub first : take (length (whole_frames found.spec_ex list))
      (containers found.spec_ex.bytes_per_sample (found.frames * found.spec_ex.spec.channels) (drop start contents))
      ≡ whole_frames found.spec_ex list

-- No byte of these samples is taken for a pad byte: where a frame has one byte, and the data length that is shown is
-- one less than what is held, the last byte held isn't theirs.
abbrev pub IsNoPad : WavSpecEx → ℕ → ℕ → List (List ℕ) → Type 0
IsNoPad s shown n list = frame_length s ≡ 1 → n ≡ shown + 1 → length list ≤ shown

-- the data length that a file with this head shows
abbrev pub shown_of : SeenHead → ℕ
shown_of head = head.data_length + (if head.has_more then 1 else 0)

-- the sizes are those of a file with this head that shows this data length, and holds so many bytes from the data on
pub record AreRightSizes (head : SeenHead) (shown n : ℕ) (sizes : Sizes) : Type 0 where
  pub riff : sizes.riff_size ≡ riff_size head.data_start sizes.data_length
  pub length_is : sizes.data_length ≡ right_length head.spec_ex shown n
  pub frames : sizes.frames ≡ frames_held head.spec_ex shown n
  pub torn : sizes.left_over ≡ torn_bytes head.spec_ex shown n

-- over every medium: the sizes are right for what is held, and made of small numbers
pub record IsSoundDamage (d : Damage) : Type 0 where
  pub spec : IsSoundSpec d.head.spec_ex
  pub place : IsDataPlace d.head.data_start
  pub few : d.held ≤ 2 ^ 33
  pub sizes : AreRightSizes d.head (shown_of d.head) d.held d.sizes

-- what is reported of a file as it was found
abbrev pub repair_of : Damage → Repair
repair_of d = record {
  spec_ex = d.head.spec_ex;
  frames = frames_found d.state d.head.spec_ex d.head.data_length (shown_of d.head) d.held;
  left_over = torn_found d.state d.head.spec_ex d.head.data_length (shown_of d.head) d.held;
  state = d.state;
}

-- a file was looked at: what is reported of it, what it holds, and nothing is written
pub record FindsDamage (looks : Bool) (old : MediumState) (d : Damage) (new : MediumState) : Type 0
  where
    pub found : IsFoundAt looks old.contents (repair_of d) d.head.data_length d.head.data_start
    pub held_is : d.held ≡ held d.head.data_start old.contents
    pub puts : PutsNothing old new
    pub faults : new.faults ≡ old.faults

-- nothing was written and no call failed: at most the place has changed
pub record IsSame (old new : MediumState) : Type 0 where
  pub puts : PutsNothing old new
  pub faults : new.faults ≡ old.faults

-- bytes as a medium that is at its beginning
abbrev pub as_medium : List ℕ → MediumState
as_medium bytes = record unknown { contents = bytes }

-- the first n bytes are what a repair leaves of the first ones, and what is after them stays
pub record RepairsBytes (looks : Bool) (used n : ℕ) (found : Repair) (old new : List ℕ) : Type 0
  where
    pub repairs : Repairs looks (as_medium (take used old)) found (as_medium (take n new))
    pub rest : drop n new ≡ drop n old

-- a pad byte is missing from a file that is to be mended and takes all of the memory
pub record LacksRoom (looks : Bool) (used : ℕ) (bytes : List ℕ) : Type 0 where
  pub found : Repair
  pub len : ℕ
  pub start : ℕ
  pub is : IsFoundAt looks (take used bytes) found len start
  pub mends : is_mended (not looks) found.state ≡ true
  pub pad : missing_pad (found_length found) (held start (take used bytes)) ≡ 0 ∷ []
  pub full : length bytes ≤ used
