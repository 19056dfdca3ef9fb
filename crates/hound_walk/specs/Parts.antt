-- The walk over chunks (RIFF, "Chunks"), for a caller who hands in its bytes, part after part.
use Rattle.std.specs.Prelude.{◌≡◌, ℕ, ◌+◌, ◌-◌, ◌*◌, ◌/◌, ◌≤◌, ◌<◌, ◌⊎◌, List, ◌++◌, length, take, drop, Option, Result, Ok, Err, ⊤}
use Rattle.hound_number.specs.{number}
use Rattle.hound_spec.specs.{greatest_u32, padded, fmt_tag}
use Rattle.hound_spec.specs.declared.spec.WavSpecEx.{WavSpecEx}
use Rattle.hound_walk.specs.Grammar.{fmt_len, IsSoundSpec, Head, IsDataPlace, Rejected}
use Rattle.hound_walk.specs.Walking.{Walked, IsSoundOption}
use Rattle.hound_walk.specs.declared.cause.Cause.{Cause}
use Rattle.hound_walk.specs.declared.cause.Cause.TheVariants.{Ended}
use Rattle.hound_walk.specs.declared.parts.Part.{Part}
use Rattle.hound_walk.specs.declared.parts.Part.TheVariants.{Front, Header, Last, Fmt}
use Rattle.hound_walk.specs.declared.parts.HeadWalk.{HeadWalk}
use Rattle.hound_walk.specs.declared.parts.Step.{Step}
use Rattle.hound_walk.specs.declared.parts.Step.TheVariants.{Next, Data}

-- Whole chunks take the c bytes of the file after its first twelve, and this spec was found in them; or the file ends
-- before that, and so has no head.
abbrev pub Reaches : List ℕ → Option WavSpecEx → ℕ → Type 0
Reaches file found c = Walked file (drop (12 + c) file) found c ⊎ ((length file < 12 + c) × Rejected file Ended)

-- the part after a content of which so much was read: its last byte, too, unless that was read
abbrev pub IsAfter : ℕ → ℕ → Part → Type 0
IsAfter content read Header = read ≡ content
IsAfter content read Last = read < content
IsAfter content read _ = ⊥

-- where a part begins, c bytes after the first twelve, and how long it is
abbrev pub part_start : Part → ℕ → ℕ
part_start Front c = 0
part_start Header c = 12 + c
part_start Last c = 11 + c
part_start (Fmt len) c = 20 + c

abbrev pub part_length : Part → ℕ
part_length Front = 12
part_length Header = 8
part_length Last = 9
part_length (Fmt len) = fmt_len len

-- what is known of the file when a walk asks for a part
abbrev pub IsAtPart : List ℕ → Part → Option WavSpecEx → ℕ → Type 0
IsAtPart file Front found c = ⊤
IsAtPart file Header found c = Walked file (drop (12 + c) file) found c
IsAtPart file Last found c = Reaches file found c
IsAtPart file (Fmt len) found c = Walked file (drop (12 + c) file) found c
    × (c + 8 + padded len ≤ greatest_u32) × (size : List ℕ) × (length size ≡ 4) × (number size ≡ len)
    × (drop (12 + c) file ≡ fmt_tag ++ (size ++ drop (20 + c) file))

abbrev pub IsAt : List ℕ → HeadWalk → Type 0
IsAt file walk = IsAtPart file walk.part walk.found walk.taken

-- the bytes that a walk asks for: fewer only at the end of the file
abbrev pub part_bytes : HeadWalk → List ℕ → List ℕ
part_bytes walk file = take (part_length walk.part) (drop (part_start walk.part walk.taken) file)

-- where one part of the file leads: on, to the data, or to the cause why there are none
abbrev pub LeadsTo : List ℕ → Result Step Cause → Type 0
LeadsTo file (Ok (Next next)) = IsAt file next
LeadsTo file (Ok (Data head)) = Head file head.spec_ex head.data_length head.data_start
LeadsTo file (Err cause) = Rejected file cause

-- No byte is requested twice, and none of the data, which begin where the last part ends.
abbrev pub IsAhead : ℕ → Step → Type 0
IsAhead end (Next next) = end ≤ part_start next.part next.taken
IsAhead end (Data head) = head.data_start ≡ end

abbrev pub IsSoundStep : Step → Type 0
IsSoundStep (Next next) = IsSoundOption next.found
IsSoundStep (Data head) = IsSoundSpec head.spec_ex × IsDataPlace head.data_start

-- how many parts a walk may still ask for
abbrev pub parts_left : Part → ℕ → ℕ
parts_left Front c = 2 * 4294967296 + 2
parts_left Header c = 2 * (4294967296 - c) + 1
parts_left Last c = 2 * (4294967296 - c) + 1
parts_left (Fmt len) c = 2 * (4294967296 - c)

-- the same in a file of n bytes, each of whose chunks has a header of eight: a part for that, and one for a fmt chunk
abbrev pub parts_within : ℕ → Part → ℕ → ℕ
parts_within n Front c = 2 * ((n - 12) / 8) + 2
parts_within n Header c = 2 * ((n - (12 + c)) / 8) + 1
parts_within n Last c = 2 * ((n - (12 + c)) / 8) + 1
parts_within n (Fmt len) c = 2 * ((n - (12 + c)) / 8)

abbrev pub IsNearerWithin : ℕ → ℕ → Step → Type 0
IsNearerWithin n left (Next next) = parts_within n next.part next.taken < left
IsNearerWithin n left (Data head) = ⊤

abbrev pub IsNearer : ℕ → Step → Type 0
IsNearer left (Next next) = parts_left next.part next.taken < left
IsNearer left (Data head) = ⊤
