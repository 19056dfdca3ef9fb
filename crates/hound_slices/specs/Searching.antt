-- How much of a stream is whole frames, where the data may begin if the header is damaged, and what a file is.
use Rattle.std.specs.Prelude.{◌≡◌, ℕ, ◌+◌, ◌-◌, ◌%◌, ◌≤◌, ◌^◌, ◌==◌, ◌&&◌, ◌||◌, ◌⊎◌, if◌then◌else◌, Bool, List, length, take, drop, Result, Ok, Err, slice_index, slice_range, nat_le, nat_lt, bytes_eq, codes}
use Rattle.hound_number.specs.{number}
use Rattle.hound_spec.specs.{data_tag, fmt_tag}
use Rattle.hound_spec.specs.declared.spec.WavSpecEx.{WavSpecEx}
use Rattle.hound_repair.specs.{frame_length}
use Rattle.hound_walk.specs.declared.cause.Cause.TheVariants.{Format}
use Rattle.hound_walk.specs.declared.cause.Reason.TheVariants.{NoDataChunk}
use Rattle.hound_slices.specs.declared.error.CallError.{CallError}
use Rattle.hound_slices.specs.declared.error.CallError.TheVariants.{Head, NotWritable, TooLong}

-- a frame of a spec has bytes (RIFF, "WAVE": nBlockAlign)
abbrev pub HasFrames : WavSpecEx → Type 0
HasFrames s = (1 ≤ s.spec.channels) × (1 ≤ s.bytes_per_sample)

-- how many of so many bytes are whole frames, if the answer fits
abbrev pub CountsWhole : WavSpecEx → ℕ → Result ℕ CallError → Type 0
CountsWhole s count (Ok n) = HasFrames s × (n ≡ count - count % frame_length s)
CountsWhole s count (Err NotWritable) = HasFrames s → ⊥
CountsWhole s count (Err TooLong) = 2 ^ 63 ≤ count
CountsWhole s count (Err _) = ⊥

-- a tag is in the bytes at a place after the WAVE tag, and so many bytes are there from it on (RIFF, "Chunks")
abbrev pub IsTagAt : List ℕ → ℕ → List ℕ → ℕ → Type 0
IsTagAt tag least bytes place = (12 ≤ place) × (place + least ≤ length bytes) × (take 4 (drop place bytes) ≡ tag)

-- the first one of these
abbrev pub IsFirstTag : List ℕ → ℕ → List ℕ → ℕ → Type 0
IsFirstTag tag least bytes place = IsTagAt tag least bytes place
    × ((other : ℕ) → IsTagAt tag least bytes other → place ≤ other)

-- the place after the first tag of data and their length
abbrev pub GuessesData : List ℕ → Result ℕ CallError → Type 0
GuessesData bytes (Ok n) = (place : ℕ) × (n ≡ place + 8) × IsFirstTag data_tag 8 bytes place
GuessesData bytes (Err (Head (Format NoDataChunk))) = (place : ℕ) → IsTagAt data_tag 8 bytes place → ⊥
GuessesData bytes (Err _) = ⊥

-- MPEG audio begins with an ID3v2 tag, or with a frame, whose first eleven bits are ones (ISO/IEC 11172-3)
abbrev pub is_mpeg : List ℕ → Bool
is_mpeg tag = bytes_eq (take 3 tag) (codes "ID3") || ((slice_index tag 0 == 255) && nat_le 224 (slice_index tag 1))

-- The kinds of files that begin with other tags, by the number that hound.h gives them: RIFX (RIFF, "Motorola byte
-- order"), RF64 (EBU Tech 3306), BW64 (ITU-R BS.2088), Wave64 (Sony), AIFF, FLAC, Ogg and MPEG audio. All others have
-- 65536.
unfoldable pub kind_of_tag : List ℕ → ℕ
kind_of_tag tag =
    if nat_lt (length tag) 4 then 65536
    else if bytes_eq tag (codes "RIFX") then 65537
    else if bytes_eq tag (codes "RF64") then 65538
    else if bytes_eq tag (codes "BW64") then 65539
    else if bytes_eq tag (codes "riff") then 65540
    else if bytes_eq tag (codes "FORM") then 65541
    else if bytes_eq tag (codes "fLaC") then 65542
    else if bytes_eq tag (codes "OggS") then 65543
    else if is_mpeg tag then 65544
    else 65536

-- the format of the samples that have this fmt chunk: its tag, or of an extensible one that of its subformat
-- (WAVEFORMATEXTENSIBLE)
abbrev pub format_of_fmt : List ℕ → ℕ
format_of_fmt fmt =
    if (number (slice_range fmt 0 2) == 65534) && nat_le 26 (length fmt)
    then number (slice_range fmt 24 26) else number (slice_range fmt 0 2)

-- that format, but for floats of 64 bits, which have a number of their own
unfoldable pub kind_of_fmt : List ℕ → ℕ
kind_of_fmt fmt =
    if (format_of_fmt fmt == 3) && (number (slice_range fmt 14 16) == 64) then 65545 else format_of_fmt fmt

-- what a file is that begins with no other tag: the format of the first fmt chunk, if there is one
abbrev pub IsKindOfSamples : List ℕ → ℕ → Type 0
IsKindOfSamples bytes kind =
    ((place : ℕ) × IsFirstTag fmt_tag 24 bytes place × (kind ≡ kind_of_fmt (drop (place + 8) bytes)))
    ⊎ (((place : ℕ) → IsTagAt fmt_tag 24 bytes place → ⊥) × (kind ≡ 65536))

-- what a file is: by the tag that it begins with, or else by its samples
abbrev pub IsKind : List ℕ → ℕ → Type 0
IsKind bytes kind = ((kind_of_tag (take 4 bytes) ≡ 65536 → ⊥) × (kind ≡ kind_of_tag (take 4 bytes)))
    ⊎ ((kind_of_tag (take 4 bytes) ≡ 65536) × IsKindOfSamples bytes kind)
