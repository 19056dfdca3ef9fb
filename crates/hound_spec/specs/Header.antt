-- The specs that can be written, the header of a file of one, and the whole file.
use Rattle.std.specs.Prelude.{ℕ, ◌+◌, ◌*◌, ◌/◌, ◌≤◌, Bool, ◌==◌, ◌&&◌, IsTrue, List, [], ◌∷◌, ◌-◌, ◌^◌, ◌%◌, min, nat_le, if◌then◌else◌, ◌++◌, length, codes, replicate, slice_range}
use Rattle.std.specs.List.{list_any, concat}
use Rattle.hound_spec.specs.declared.spec.SampleFormat.{SampleFormat}
use Rattle.hound_spec.specs.declared.spec.SampleFormat.TheVariants.{Int, Float}
use Rattle.hound_spec.specs.declared.spec.WavSpec.{WavSpec}
use Rattle.hound_spec.specs.declared.spec.WavSpecEx.{WavSpecEx}
use Rattle.hound_number.specs.{bytes_of, number}

-- The largest numbers that fit in a field of two bytes and one of four.
abbrev pub greatest_u16 : ℕ
greatest_u16 = 65535

abbrev pub greatest_u32 : ℕ
greatest_u32 = 4294967295

-- The format tags (WAVEFORMATEX, "wFormatTag").
abbrev pub pcm : ℕ
pcm = 1

abbrev pub ieee_float : ℕ
ieee_float = 3

abbrev pub extensible : ℕ
extensible = 0xfffe

-- The fields that every fmt chunk begins with (WAVEFORMAT, and the bits of PCMWAVEFORMAT).
pub record FmtFields : Type 0 where
  pub tag : ℕ
  pub channels : ℕ
  pub rate : ℕ
  pub byte_rate : ℕ
  pub align : ℕ
  pub bits : ℕ

-- Their bytes, sixteen in all, and the fields that sixteen bytes encode.
abbrev pub fmt_bytes : FmtFields → List ℕ
fmt_bytes f = bytes_of 2 f.tag ++ bytes_of 2 f.channels ++ bytes_of 4 f.rate
    ++ bytes_of 4 f.byte_rate ++ bytes_of 2 f.align ++ bytes_of 2 f.bits

abbrev pub fmt_fields : List ℕ → FmtFields
fmt_fields bytes = record {
  tag = number (slice_range bytes 0 2);
  channels = number (slice_range bytes 2 4);
  rate = number (slice_range bytes 4 8);
  byte_rate = number (slice_range bytes 8 12);
  align = number (slice_range bytes 12 14);
  bits = number (slice_range bytes 14 16);
}

-- The size of what an extensible chunk has after those fields (WAVEFORMATEX, "cbSize").
abbrev pub extension_size : ℕ
extension_size = 22

-- What follows that size (WAVEFORMATEXTENSIBLE: the valid bits, the mask of speakers, the subformat).
pub record Extension : Type 0 where
  pub valid_bits : ℕ
  pub mask : ℕ
  pub subformat : List ℕ

-- Its bytes, and the extension that 22 bytes encode.
abbrev pub extension_bytes : Extension → List ℕ
extension_bytes e = bytes_of 2 e.valid_bits ++ bytes_of 4 e.mask ++ e.subformat

abbrev pub extension : List ℕ → Extension
extension bytes = record {
  valid_bits = number (slice_range bytes 0 2);
  mask = number (slice_range bytes 2 6);
  subformat = slice_range bytes 6 22;
}

-- The GUID of a sample format (KSDATAFORMAT_SUBTYPE_PCM, KSDATAFORMAT_SUBTYPE_IEEE_FLOAT): its format tag, and fourteen
-- bytes that all such GUIDs have.
abbrev pub guid : ℕ → List ℕ
guid tag = bytes_of 2 tag ++ 0x00 ∷ 0x00 ∷ 0x00 ∷ 0x00 ∷ 0x10 ∷ 0x00
    ∷ 0x80 ∷ 0x00 ∷ 0x00 ∷ 0xaa ∷ 0x00 ∷ 0x38 ∷ 0x9b ∷ 0x71 ∷ []

abbrev pub subformat : SampleFormat → List ℕ
subformat Int = guid pcm
subformat Float = guid ieee_float

-- The used bits of a sample and the bytes of its container, by format (WAVEFORMATEXTENSIBLE, "wValidBitsPerSample"):
-- one list for reading, writing and appending.
abbrev pub pairs : SampleFormat → List (ℕ × ℕ)
pairs Int = (8, 1) ∷ (16, 2) ∷ (24, 3) ∷ (24, 4) ∷ (32, 4) ∷ []
pairs Float = (32, 4) ∷ []

-- whether samples of a format have these bits and bytes
abbrev pub is_pair : SampleFormat → ℕ → ℕ → Bool
is_pair format bits width = list_any (λ (b, w). bits == b && width == w) (pairs format)

abbrev pub IsPair : SampleFormat → ℕ → ℕ → Type 0
IsPair format bits width = IsTrue (is_pair format bits width)

-- A spec that can be written: bits and bytes of that list, and numbers that fit in the fmt chunk's fields
-- (WAVEFORMATEX, "nBlockAlign", "nAvgBytesPerSec").
pub record IsWritable (s : WavSpecEx) : Type 0 where
  pub pair : IsPair s.spec.sample_format s.spec.bits_per_sample s.bytes_per_sample
  pub channels : 1 ≤ s.spec.channels
  pub rate : 1 ≤ s.spec.sample_rate
  pub align : s.spec.channels * s.bytes_per_sample ≤ greatest_u16
  pub byte_rate : s.spec.channels * s.bytes_per_sample * s.spec.sample_rate ≤ greatest_u32

-- a spec with as many bytes a sample as its bits need, by a division that rounds down
abbrev pub with_default_width : WavSpec → WavSpecEx
with_default_width spec = record { spec = spec; bytes_per_sample = (spec.bits_per_sample + 7) / 8 }

-- The chunk identifiers (RIFF, "Chunks": four characters, a size, the content).
abbrev pub riff_tag : List ℕ
riff_tag = codes "RIFF"

abbrev pub wave_tag : List ℕ
wave_tag = codes "WAVE"

abbrev pub fmt_tag : List ℕ
fmt_tag = codes "fmt "

abbrev pub data_tag : List ℕ
data_tag = codes "data"

-- Whether the fmt chunk is a PCMWAVEFORMAT: one or two channels of 8 or 16 bits.
abbrev pub is_short : WavSpecEx → Bool
is_short s = nat_le s.spec.channels 2 && nat_le s.spec.bits_per_sample 16

-- The mask of the speakers: one low bit for each channel, of 18 (WAVEFORMATEXTENSIBLE, "dwChannelMask").
abbrev pub mask : ℕ → ℕ
mask channels = 2 ^ min channels 18 - 1

-- The fields of a spec, with this format tag and these bits (WAVEFORMAT).
abbrev pub fields : ℕ → ℕ → WavSpecEx → FmtFields
fields tag bits s = record {
  tag = tag;
  channels = s.spec.channels;
  rate = s.spec.sample_rate;
  byte_rate = s.spec.channels * s.bytes_per_sample * s.spec.sample_rate;
  align = s.spec.channels * s.bytes_per_sample;
  bits = bits;
}

-- The extension of a spec (WAVEFORMATEXTENSIBLE).
abbrev pub extended : WavSpecEx → Extension
extended s = record {
  valid_bits = s.spec.bits_per_sample;
  mask = mask s.spec.channels;
  subformat = subformat s.spec.sample_format;
}

-- The content of a PCMWAVEFORMAT, and of a WAVEFORMATEXTENSIBLE, whose bits are those of the container.
abbrev pub short_fmt : WavSpecEx → List ℕ
short_fmt s = fmt_bytes (fields pcm s.spec.bits_per_sample s)

abbrev pub long_fmt : WavSpecEx → List ℕ
long_fmt s =
    fmt_bytes (fields extensible (8 * s.bytes_per_sample) s)
    ++ bytes_of 2 extension_size ++ extension_bytes (extended s)

-- The fmt chunk after its tag: its length and its content.
unfoldable pub sized_fmt : WavSpecEx → List ℕ
sized_fmt s = if is_short s then bytes_of 4 16 ++ short_fmt s else bytes_of 4 40 ++ long_fmt s

-- All before the data: RIFF with its size, WAVE, the fmt chunk, and the data chunk's tag and length (RIFF, "Waveform
-- Audio File Format").
unfoldable pub header : WavSpecEx → ℕ → ℕ → List ℕ
header s size data_length = riff_tag ++ bytes_of 4 size ++ wave_tag
    ++ fmt_tag ++ sized_fmt s ++ data_tag ++ bytes_of 4 data_length

-- The place of the first data byte after that header.
abbrev pub data_start : WavSpecEx → ℕ
data_start s = if is_short s then 44 else 68

-- How many bytes the content of a chunk of this length takes: one of an odd length is followed by a pad byte (RIFF,
-- "Chunks").
abbrev pub padded : ℕ → ℕ
padded len = len + len % 2

-- The RIFF size of a file whose data begin at this place and have this length: all that comes after the size field.
abbrev pub riff_size : ℕ → ℕ → ℕ
riff_size start data_length = start - 8 + padded data_length

-- The pad byte after data of an odd length, which the data length doesn't count (RIFF, "Chunks").
abbrev pub padding : ℕ → List ℕ
padding data_length = replicate (data_length % 2) 0

-- The canonical file of a spec and a list of containers: the header with the two sizes, then the containers joined,
-- then the pad byte.
abbrev pub canonical : WavSpecEx → List (List ℕ) → List ℕ
canonical s containers =
    let data_length = length (concat containers) in
    header s (riff_size (data_start s) data_length) data_length
    ++ (concat containers ++ padding data_length)
