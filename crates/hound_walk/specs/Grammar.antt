-- A file as chunks (RIFF): what is before the data, what is wrong if it can't be read, and that it is one of these.
use Rattle.std.specs.Prelude.{◌≡◌, ℕ, ◌+◌, ◌≤◌, ◌/◌, ◌%◌, ◌==◌, ◌⊎◌, false, not, List, [], ◌∷◌, ◌++◌, length, take, drop, slice_range, Option, Some, None, is_none, Result, Ok, Err, nat_lt, if◌then◌else◌, ◌<◌, ◌-◌, ◌*◌, ◌||◌, min}
use Rattle.std.specs.Str.{bytes_eq}
use Rattle.std.specs.List.{flat_map}
use Rattle.hound_number.specs.{number}
use Rattle.hound_spec.specs.{greatest_u32, padded, riff_tag, wave_tag, fmt_tag, data_tag, FmtFields, fmt_fields, Extension, extension, extension_size, subformat, pcm, ieee_float, extensible, greatest_u16}
use Rattle.hound_spec.specs.declared.spec.WavSpecEx.{WavSpecEx}
use Rattle.hound_walk.specs.declared.cause.Cause.{Cause}
use Rattle.hound_walk.specs.declared.cause.Cause.TheVariants.{Ended, Format, Unsupported}
use Rattle.hound_walk.specs.declared.cause.Reason.TheVariants.{NoRiffTag, NoWaveTag, NoDataChunk, NoFmtChunk, DataLength, FrameLength, FmtSize, UnexpectedFmtSize, ZeroChannels, BitsExceedWidth, Inconsistent, BitsNotWholeBytes, ZeroBits, BitsNot8Or16, ExSize, BitsNot32, ExtensibleSize}
use Rattle.hound_spec.specs.declared.spec.SampleFormat.{SampleFormat}
use Rattle.hound_spec.specs.declared.spec.SampleFormat.TheVariants.{Int, Float}

-- f applied to an Ok; an Err stays
infixl 10 ◌>>=◌
abbrev pub ◌>>=◌ : {A B : Type 0} → Result A Cause → (A → Result B Cause) → Result B Cause
(Ok x) >>= f = f x
(Err e) >>= f = Err e

-- the width of a container in bytes
abbrev pub width_of : FmtFields → ℕ
width_of f = f.align / f.channels

-- the spec that the fields give
abbrev pub spec_of : FmtFields → SampleFormat → WavSpecEx
spec_of f format = record {
  spec = record { channels = f.channels; sample_rate = f.rate; bits_per_sample = f.bits; sample_format = format };
  bytes_per_sample = width_of f;
}

-- The checks of every format tag, in order (WAVEFORMAT).
unfoldable pub wave_format : FmtFields → Result WavSpecEx Cause
wave_format f =
    if f.channels == 0 then Err (Format ZeroChannels)
    else if nat_lt (8 * width_of f) f.bits || nat_lt greatest_u16 (8 * width_of f)
    then Err (Format BitsExceedWidth)
    else if not (f.byte_rate == f.align * f.rate) || nat_lt greatest_u32 (f.align * f.rate)
    then Err (Format Inconsistent)
    else if not (f.bits % 8 == 0) then Err (Format BitsNotWholeBytes)
    else if f.bits == 0 then Err (Format ZeroBits)
    else Ok (spec_of f Int)

-- Integers (PCMWAVEFORMAT). `after` is the content after its first sixteen bytes.
unfoldable pub wave_format_pcm : ℕ → WavSpecEx → List ℕ → Result WavSpecEx Cause
wave_format_pcm len found after =
    if len == 16 then Ok found
    else if not (len == 18 || len == 40) then Err (Format UnexpectedFmtSize)
    else if nat_lt (length after) 2 then Err Ended
    else if not
    (found.spec.bits_per_sample == 8 || found.spec.bits_per_sample == 16 || found.spec.bits_per_sample == 24)
    then Err (Format BitsNot8Or16)
    else if nat_lt (length after) (len - 16) then Err Ended
    else Ok found

-- the same spec with samples of this format
abbrev pub with_format : WavSpecEx → SampleFormat → WavSpecEx
with_format found format = record found { spec = record found.spec { sample_format = format } }

-- IEEE floats (WAVEFORMATEX, "cbSize").
unfoldable pub wave_format_ieee_float : ℕ → WavSpecEx → List ℕ → Result WavSpecEx Cause
wave_format_ieee_float len found after =
    if not (len == 16 || len == 18) then Err (Format UnexpectedFmtSize)
    else if nat_lt (length after) (len - 16) then Err Ended
    else if not (number (take (len - 16) after) == 0) then Err (Format ExSize)
    else if not (found.spec.bits_per_sample == 32) then Err (Format BitsNot32)
    else Ok (with_format found Float)

-- valid bits above 0 replace the bits (WAVEFORMATEXTENSIBLE, "wValidBitsPerSample")
abbrev pub with_valid_bits : WavSpecEx → ℕ → WavSpecEx
with_valid_bits found valid =
    let bits = if valid == 0 then found.spec.bits_per_sample else valid in
    record found { spec = record found.spec { bits_per_sample = bits } }

-- the subformat gives the format of the samples; the mask is ignored (WAVEFORMATEXTENSIBLE)
abbrev pub by_subformat : WavSpecEx → Extension → Result WavSpecEx Cause
by_subformat found e =
    if bytes_eq e.subformat (subformat Int) then Ok (with_valid_bits (with_format found Int) e.valid_bits)
    else if bytes_eq e.subformat (subformat Float)
    then Ok (with_valid_bits (with_format found Float) e.valid_bits)
    else Err Unsupported

-- An extensible chunk: the size of an extension, and the extension (WAVEFORMATEXTENSIBLE).
unfoldable pub wave_format_extensible : ℕ → WavSpecEx → List ℕ → Result WavSpecEx Cause
wave_format_extensible len found after =
    if nat_lt len 40 then Err (Format UnexpectedFmtSize)
    else if nat_lt (length after) 2 then Err Ended
    else if not (number (take 2 after) == extension_size) then Err (Format ExtensibleSize)
    else if nat_lt (length after) 24 then Err Ended
    else by_subformat found (extension (drop 2 after))

-- what follows the first sixteen bytes, by the format tag (WAVEFORMATEX, "wFormatTag")
unfoldable pub by_tag : ℕ → ℕ → WavSpecEx → List ℕ → Result WavSpecEx Cause
by_tag tag len found after =
    if tag == pcm then wave_format_pcm len found after
    else if tag == ieee_float then wave_format_ieee_float len found after
    else if tag == extensible then wave_format_extensible len found after
    else Err Unsupported

-- How many bytes of a fmt chunk of this length are used (WAVEFORMATEXTENSIBLE).
abbrev pub fmt_len : ℕ → ℕ
fmt_len len = min len 40

-- the spec of these bytes of a fmt chunk of this length, of which the last ones may be missing
unfoldable pub fmt_said : ℕ → List ℕ → Result WavSpecEx Cause
fmt_said len bytes =
    if nat_lt len 16 then Err (Format FmtSize)
    else if nat_lt (length bytes) 16 then Err Ended
    else wave_format (fmt_fields (take 16 bytes)) >>= λ found.
    by_tag (fmt_fields (take 16 bytes)).tag len found (drop 16 bytes)

-- The spec of a fmt chunk of this length: bytes after the used ones are ignored.
abbrev pub fmt_of : ℕ → List ℕ → Result WavSpecEx Cause
fmt_of len content = fmt_said len (take (fmt_len len) content)

-- the divisors of a reader are not 0, and a frame has at most 65535 bytes
abbrev pub IsSoundSpec : WavSpecEx → Type 0
IsSoundSpec found =
    (0 < found.spec.channels) × (0 < found.bytes_per_sample)
    × (found.spec.channels * found.bytes_per_sample ≤ 65535)

-- A chunk of the file: the tag, the length as four bytes, and the content with its pad byte, if it has one (RIFF,
-- "Chunks").
pub record Chunk : Type 0 where
  pub tag : List ℕ
  pub size : List ℕ
  pub content : List ℕ

-- its bytes in the file
abbrev pub chunk_bytes : Chunk → List ℕ
chunk_bytes p = p.tag ++ (p.size ++ p.content)

-- the bytes of chunks, one after the other
abbrev pub joined : List Chunk → List ℕ
joined ps = flat_map chunk_bytes ps

-- the spec or the fault of an answer
abbrev pub ok_of : Result WavSpecEx Cause → Option WavSpecEx
ok_of (Ok found) = Some found
ok_of (Err cause) = None

abbrev pub fault_of : Result WavSpecEx Cause → Option Cause
fault_of (Ok found) = None
fault_of (Err cause) = Some cause

-- the fault of the content, if it is that of a fmt chunk and has one
abbrev pub fmt_fault : List ℕ → ℕ → List ℕ → Option Cause
fmt_fault tag len content = if bytes_eq tag fmt_tag then fault_of (fmt_of len content) else None

-- A chunk before the data: its tag isn't "data", its content is whole, and a fmt chunk has no fault.
pub record IsChunk (p : Chunk) : Type 0 where
  pub tag : length p.tag ≡ 4
  pub size : length p.size ≡ 4
  pub content : length p.content ≡ padded (number p.size)
  pub other : bytes_eq p.tag data_tag ≡ false
  pub sound : fmt_fault p.tag (number p.size) p.content ≡ None

-- Chunks, so many bytes after the WAVE tag, each within the limit of 32 bits.
abbrev pub Chunks : ℕ → List Chunk → Type 0
Chunks taken [] = Unit {0}
Chunks taken (p ∷ ps) = IsChunk p × (taken + 8 + padded (number p.size) ≤ greatest_u32)
    × Chunks (taken + length (chunk_bytes p)) ps

-- the spec after a chunk, and after chunks: that of the last fmt chunk
unfoldable pub spec_after : Option WavSpecEx → List ℕ → ℕ → List ℕ → Option WavSpecEx
spec_after found tag len content = if bytes_eq tag fmt_tag then ok_of (fmt_of len content) else found

abbrev pub last_spec : Option WavSpecEx → List Chunk → Option WavSpecEx
last_spec found [] = found
last_spec found (p ∷ ps) = last_spec (spec_after found p.tag (number p.size) p.content) ps

-- The bytes are RIFF, a size, WAVE, these chunks within the limit, and the rest.
pub record Walk (bytes : List ℕ) (chunks : List Chunk) (rest : List ℕ) : Type 0 where
  pub size : List ℕ
  pub four : length size ≡ 4
  pub whole : bytes ≡ riff_tag ++ (size ++ (wave_tag ++ (joined chunks ++ rest)))
  pub each : Chunks 0 chunks

-- The bytes before `data_start` are a head: chunks, and the tag and length of a data chunk. The last fmt chunk has this
-- spec.
pub record Head (bytes : List ℕ) (spec : WavSpecEx) (len data_start : ℕ) : Type 0 where
  pub chunks : List Chunk
  pub size : List ℕ
  pub rest : List ℕ
  pub walk : Walk bytes chunks (data_tag ++ (size ++ rest))
  pub four : length size ≡ 4
  pub data_len : number size ≡ len
  pub limit : length (joined chunks) + 8 ≤ greatest_u32
  pub spec_is : last_spec None chunks ≡ Some spec
  pub place : data_start ≡ 12 + length (joined chunks) + 8

-- where data can begin: after the front and a chunk's header, and within the limit
abbrev pub IsDataPlace : ℕ → Type 0
IsDataPlace place = (20 ≤ place) × (place ≤ 20 + greatest_u32)

-- The fault of the first twelve bytes, if they have one.
unfoldable pub front_fault : List ℕ → Option Cause
front_fault bytes =
    if nat_lt (length bytes) 4 then Some Ended
    else if not (bytes_eq (take 4 bytes) riff_tag) then Some (Format NoRiffTag)
    else if nat_lt (length bytes) 12 then Some Ended
    else if not (bytes_eq (slice_range bytes 8 12) wave_tag) then Some (Format NoWaveTag)
    else None

-- the first of two faults
abbrev pub first_fault : Option Cause → Option Cause → Option Cause
first_fault None second = second
first_fault (Some cause) second = Some cause

-- the fault if there are fewer bytes than these
abbrev pub cut_fault : ℕ → List ℕ → Option Cause
cut_fault n bytes = if nat_lt (length bytes) n then Some Ended else None

-- The fault of a chunk with this tag and length, and the rest after them, if so many bytes after the WAVE tag, and a
-- spec so far, came before.
unfoldable pub content_fault : ℕ → Option WavSpecEx → List ℕ → ℕ → List ℕ → Option Cause
content_fault taken found tag len rest =
    if bytes_eq tag data_tag then (if is_none found then Some (Format NoFmtChunk) else None)
    else if nat_lt greatest_u32 (taken + 8 + padded len) then Some (Format NoDataChunk)
    else first_fault (fmt_fault tag len (take (padded len) rest)) (cut_fault (padded len) rest)

-- The fault of a chunk that begins here, if it has one.
unfoldable pub chunk_fault : ℕ → Option WavSpecEx → List ℕ → Option Cause
chunk_fault taken found bytes =
    if nat_lt greatest_u32 (taken + 8) then Some (Format NoDataChunk)
    else if nat_lt (length bytes) 8 then Some Ended
    else content_fault taken found (take 4 bytes) (number (slice_range bytes 4 8)) (drop 8 bytes)

-- The bytes have no head for this cause: the first twelve bytes have it, or what comes after whole chunks has it.
abbrev pub Rejected : List ℕ → Cause → Type 0
Rejected bytes cause = (front_fault bytes ≡ Some cause)
    ⊎ ((chunks : List Chunk) × (rest : List ℕ) × Walk bytes chunks rest
    × (chunk_fault (length (joined chunks)) (last_spec None chunks) rest ≡ Some cause))

-- The fault of a data length, if it has one: no whole samples, or no whole frames.
abbrev pub data_fault : WavSpecEx → ℕ → Option Cause
data_fault spec len =
    if not (len % spec.bytes_per_sample == 0) then Some (Format DataLength)
    else if not ((len / spec.bytes_per_sample) % spec.spec.channels == 0)
    then Some (Format FrameLength)
    else None

-- A head with whole frames: it counts this many samples, whether or not they follow.
pub record Readable (bytes : List ℕ) (spec : WavSpecEx) (samples data_start : ℕ) : Type 0 where
  pub len : ℕ
  pub head : Head bytes spec len data_start
  pub frames : data_fault spec len ≡ None
  pub count : samples ≡ len / spec.bytes_per_sample

-- The bytes can't be read for this cause: they have no head, or its data length is at fault.
abbrev pub Unreadable : List ℕ → Cause → Type 0
Unreadable bytes cause = Rejected bytes cause
    ⊎ ((spec : WavSpecEx) × (len : ℕ) × (data_start : ℕ) × Head bytes spec len data_start
    × (data_fault spec len ≡ Some cause))

-- the spec, the data's length or the number of samples, and the place of the data; or the cause
pub data Answer : Type 0 where
  readable : WavSpecEx → ℕ → ℕ → Answer
  unreadable : Cause → Answer

-- the bytes have this head, with the data's length, or none for this cause
abbrev pub Answers : List ℕ → Answer → Type 0
Answers bytes (readable spec len data_start) = Head bytes spec len data_start
Answers bytes (unreadable cause) = Rejected bytes cause

-- the bytes have exactly one head, or exactly one cause
abbrev pub HasOneAnswer : List ℕ → Type 0
HasOneAnswer bytes = (a : Answer) × Answers bytes a × ((b : Answer) → Answers bytes b → b ≡ a)

-- the bytes can be read, with this many samples, or not for this cause
abbrev pub AnswersFile : List ℕ → Answer → Type 0
AnswersFile bytes (readable spec samples data_start) = Readable bytes spec samples data_start
AnswersFile bytes (unreadable cause) = Unreadable bytes cause

-- the bytes can be read with exactly one spec, count and place, or not for exactly one cause
abbrev pub HasOneFileAnswer : List ℕ → Type 0
HasOneFileAnswer bytes = (a : Answer) × AnswersFile bytes a × ((b : Answer) → AnswersFile bytes b → b ≡ a)
