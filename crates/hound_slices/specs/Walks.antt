-- The walk of a caller who reads the file.
use Rattle.std.specs.Prelude.{◌≡◌, ◌⊎◌, Bool, true, false, ℕ, ◌+◌, ◌*◌, ◌≤◌, ◌<◌, ℤ, pos, List, min, take, Option, Some, None, ◌==◌, nat_lt, if◌then◌else◌}
use Rattle.hound_spec.specs.{greatest_u16}
use Rattle.hound_spec.specs.declared.spec.WavSpecEx.{WavSpecEx}
use Rattle.hound_walk.specs.{Head, IsAt, Readable, Rejected, Unreadable, part_bytes, part_length, part_start, parts_left}
use Rattle.hound_walk.specs.declared.cause.Cause.{Cause}
use Rattle.hound_walk.specs.declared.parts.HeadWalk.{HeadWalk}
use Rattle.hound_walk.specs.declared.parts.Part.{Part}
use Rattle.hound_walk.specs.declared.parts.Part.TheVariants.{Front, Header, Last, Fmt}
use Rattle.hound_writer.specs.declared.effects.Action.TheVariants.{Read}
use Rattle.hound_writer.specs.declared.effects.Report.{Report}
use Rattle.hound_writer.specs.declared.effects.Report.TheVariants.{Pending, Done, Failed}
use Rattle.hound_slices.specs.Codes.{error_code}
use Rattle.hound_slices.specs.Effects.{effect_of, report_of}
use Rattle.hound_slices.specs.Writing.{IsExplicit, spec_from_c}
use Rattle.hound_slices.specs.declared.error.CallError.TheVariants as errors
use Rattle.hound_slices.specs.declared.spec.HoundSpec.{HoundSpec}
use Rattle.hound_slices.specs.declared.spec.HoundInfo.{HoundInfo}
use Rattle.hound_slices.specs.declared.spec.HoundWalk.{HoundWalk}

-- the spec that was found so far, if C's is one of a file: of channels and bytes that make a frame
abbrev pub found_of : HoundSpec → Option WavSpecEx
found_of c =
    let s = spec_from_c c in
    if s.spec.channels == 0 then None
    else if s.bytes_per_sample == 0 then None
    else if nat_lt greatest_u16 (s.spec.channels * s.bytes_per_sample) then None
    else Some s

-- Table: which part of a file a walk requests (Part, Bytes, Place).
-- | Front | 12 | the first byte |
-- | Header | 8 | after the chunks before, where the last one has no content, or all of it was read |
-- | Last | 9: the last byte of a content that is passed over, and the header after it | at that byte |
-- | Fmt | as many as the content of a fmt chunk has, at most 40 | after its header |
-- the part that C's walk asks for, by its number
abbrev pub part_of : ℕ → ℕ → Part
part_of part length = if part == 0 then Front else if part == 1 then Header else if part == 2 then Last else Fmt length

-- the walk with C's numbers
abbrev pub walk_with : HoundSpec → ℕ → ℕ → ℕ → HeadWalk
walk_with spec taken part length = record { found = found_of spec; taken = taken; part = part_of part length }

-- the walk that C's is
abbrev pub walk_of : HoundWalk → HeadWalk
walk_of c = walk_with c.spec c.taken c.part c.fmt_length

-- where the part ends that a walk asks for
abbrev pub part_end : HeadWalk → ℕ
part_end walk = part_start walk.part walk.taken + part_length walk.part

-- the effect that C gets is to read the part that its walk needs, whose number is the least that means it
abbrev pub Asks : HoundWalk → Type 0
Asks c = (c.effect ≡ effect_of (Some (Read (part_start (walk_of c).part c.taken) (part_length (walk_of c).part))))
    × (c.part < 4)

-- Table: what a walk does with the part that it requested (Report, It returns, The walk then).
-- | done, and another part decides | 1: it requests that part, which is after this one | at it; fewer are left |
-- A walk asks on: for a later part, and there are fewer to come.
pub record AsksOn (old new : HoundWalk) : Type 0 where
  pub asks : Asks new
  pub ahead : part_end (walk_of old) ≤ new.effect.place
  pub nearer : parts_left (walk_of new).part new.taken < parts_left (walk_of old).part old.taken

-- | done, and the data begin after it | 0, with what is before them | as it was |
-- The data begin where the last part ended.
pub record FindsHead (old : HoundWalk) (info : HoundInfo) : Type 0 where
  pub explicit : IsExplicit info.spec
  pub start : info.data_start ≡ part_end (walk_of old)

-- What is before the data, with the number of samples that the header counts, which are whole frames; or of a stream,
-- whose header may count anything, and the number is 0.
abbrev pub IsHeadOf : Bool → List ℕ → HoundInfo → Type 0
IsHeadOf true file info = Readable file (spec_from_c info.spec) info.samples info.data_start
IsHeadOf false file info = (info.samples ≡ 0) × (length : ℕ) × Head file (spec_from_c info.spec) length info.data_start

-- why there is none
abbrev pub HasNoHead : Bool → List ℕ → Cause → Type 0
HasNoHead true = Unreadable
HasNoHead false = Rejected

-- | done, and the file isn't read | the cause | as it was |
-- A step of a walk over a file, of which its part was handed in, leads on, to the data, or to the cause why there are
-- none.
pub record Steps (is_counted : Bool) (file : List ℕ) (number : ℤ) (new : HoundWalk) (info : HoundInfo) : Type 0 where
  pub on : number ≡ pos 1 → IsAt file (walk_of new)
  pub found : number ≡ pos 0 → IsHeadOf is_counted file info
  pub rejected : (number ≡ pos 1 → ⊥) → (number ≡ pos 0 → ⊥)
      → (cause : Cause) × (number ≡ error_code (errors.Head cause)) × HasNoHead is_counted file cause

-- the bytes that were read of the part that a walk asks for
abbrev pub bytes_of_part : HoundWalk → List ℕ
bytes_of_part c = take (min (min c.effect.length 40) (part_length (walk_of c).part)) c.effect.bytes

-- they are the part of the file that it asks for
abbrev pub AreAsked : HoundWalk → List ℕ → Type 0
AreAsked c file = bytes_of_part c ≡ part_bytes (walk_of c) file

-- | none | 1: it requests the part again | as it was |
-- A walk whose part isn't read asks for it, as before.
pub record AsksAgain (number : ℤ) (old new : HoundWalk) : Type 0 where
  pub one : number ≡ pos 1
  pub same : walk_of new ≡ walk_of old
  pub asks : Asks new

-- | failed | `HOUND_NOT_PERFORMED` | as it was |
-- what comes of a part, by how its read has ended
abbrev pub AnswersPart : Bool → Report → ℤ → HoundWalk → HoundWalk → HoundInfo → Type 0
AnswersPart is_counted Pending number old new info = AsksAgain number old new
AnswersPart is_counted Failed number old new info = number ≡ error_code errors.NotPerformed
AnswersPart is_counted Done number old new info = (number ≡ pos 1 → AsksOn old new)
    × ((file : List ℕ) → IsAt file (walk_of old) → AreAsked old file → Steps is_counted file number new info)

-- what a walk returns of a part that was read, also of a file that has changed since: 1, 0, or a cause that a file may
-- have
abbrev pub IsStepNumber : ℤ → Type 0
IsStepNumber number = (number ≡ pos 1) ⊎ (number ≡ pos 0)
    ⊎ ((cause : Cause) × (number ≡ error_code (errors.Head cause)))

-- What a call does that takes a part. Unless it asks for another one, the walk stays as it is, and unless the data
-- begin, so does what the caller has of them.
pub record TakesPart (is_counted : Bool) (number : ℤ) (old new : HoundWalk) (was info : HoundInfo) : Type 0 where
  pub answers : AnswersPart is_counted (report_of old.effect) number old new info
  pub named : report_of old.effect ≡ Done → IsStepNumber number
  pub found : number ≡ pos 0 → FindsHead old info
  pub stays : (number ≡ pos 1 → ⊥) → new ≡ old
  pub kept : (number ≡ pos 0 → ⊥) → info ≡ was
