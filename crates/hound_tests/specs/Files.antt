-- Files that were written elsewhere, as bytes.
use Rattle.std.specs.Prelude.{◌≡◌, ℕ, ℤ, List, [], ◌∷◌, ◌++◌, codes, length, map}
use Rattle.hound_spec.specs.declared.spec.SampleFormat.TheVariants.{Int, Float}
use Rattle.hound_spec.specs.declared.spec.WavSpecEx.{WavSpecEx}
use Rattle.hound_spec.specs.{riff_tag, wave_tag, fmt_tag, data_tag}
use Rattle.hound_sample.specs.{int_meaning, containers}
use Rattle.hound_reader.specs.{ReaderState}

-- the content of a fmt chunk: mono, 44100 Hz, 16 bits
abbrev pub mono_fmt : List ℕ
mono_fmt = 0x01 ∷ 0x00 ∷ 0x01 ∷ 0x00 ∷ 0x44 ∷ 0xac ∷ 0x00 ∷ 0x00
    ∷ 0x88 ∷ 0x58 ∷ 0x01 ∷ 0x00 ∷ 0x02 ∷ 0x00 ∷ 0x10 ∷ 0x00 ∷ []

abbrev pub mono_16 : WavSpecEx
mono_16 = record {
  spec = record { channels = 1; sample_rate = 44100; bits_per_sample = 16; sample_format = Int };
  bytes_per_sample = 2;
}

-- stereo, 48000 Hz, 24 bits in four bytes
abbrev pub stereo_24 : WavSpecEx
stereo_24 = record {
  spec = record { channels = 2; sample_rate = 48000; bits_per_sample = 24; sample_format = Int };
  bytes_per_sample = 4;
}

-- a reader of four samples that counts this many as requested, and this many bytes as taken
abbrev pub counted : WavSpecEx → ℕ → ℕ → ReaderState (List ℕ)
counted s samples bytes = record {
  reader = [];
  spec_ex = s;
  num_samples = 4;
  samples_read = samples;
  bytes_read = bytes;
}

-- the header of four mono samples, up to the data
abbrev pub mono_front : List ℕ
mono_front = riff_tag ++ (0x2c ∷ 0x00 ∷ 0x00 ∷ 0x00 ∷ []) ++ wave_tag
    ++ fmt_tag ++ (0x10 ∷ 0x00 ∷ 0x00 ∷ 0x00 ∷ []) ++ mono_fmt

-- the samples 2, -3, 5, -7 of 16 bits
abbrev pub four_containers : List ℕ
four_containers = 0x02 ∷ 0x00 ∷ 0xfd ∷ 0xff ∷ 0x05 ∷ 0x00 ∷ 0xf9 ∷ 0xff ∷ []

-- the samples -96, 23052, 8388607, -8360672 of 24 bits in four bytes
abbrev pub padded_containers : List ℕ
padded_containers = 0xa0 ∷ 0xff ∷ 0xff ∷ 0x00 ∷ 0x0c ∷ 0x5a ∷ 0x00 ∷ 0x00
    ∷ 0xff ∷ 0xff ∷ 0x7f ∷ 0x00 ∷ 0x20 ∷ 0x6d ∷ 0x80 ∷ 0x00 ∷ []

-- the file of the mono samples, with other chunks before the data
abbrev pub before_data : List ℕ → List ℕ
before_data chunks = mono_front ++ chunks ++ data_tag ++ (0x08 ∷ 0x00 ∷ 0x00 ∷ 0x00 ∷ []) ++ four_containers

-- the file of the mono samples
abbrev pub four_samples : List ℕ
four_samples = before_data []

-- the tag of a fact chunk
abbrev pub fact_tag : List ℕ
fact_tag = codes "fact"

-- the same with a fact chunk of eight bytes, and with one of none
abbrev pub long_fact : List ℕ
long_fact = before_data (fact_tag ++ (0x08 ∷ 0x00 ∷ 0x00 ∷ 0x00 ∷ [])
    ++ (0x04 ∷ 0x00 ∷ 0x00 ∷ 0x00 ∷ 0x00 ∷ 0x00 ∷ 0x00 ∷ 0x00 ∷ []))

abbrev pub empty_fact : List ℕ
empty_fact = before_data (fact_tag ++ (0x00 ∷ 0x00 ∷ 0x00 ∷ 0x00 ∷ []))

-- the tag of a chunk that is ignored
abbrev pub junk_tag : List ℕ
junk_tag = codes "junk"

-- the same with three bytes of junk and their pad byte
abbrev pub odd_junk : List ℕ
odd_junk = before_data (junk_tag ++ (0x03 ∷ 0x00 ∷ 0x00 ∷ 0x00 ∷ []) ++ (0x61 ∷ 0x62 ∷ 0x63 ∷ 0x00 ∷ []))

-- the content of an extensible fmt chunk: mono, 44100 Hz, floats, and two bytes more
abbrev pub float_fmt : List ℕ
float_fmt = 0xfe ∷ 0xff ∷ 0x01 ∷ 0x00 ∷ 0x44 ∷ 0xac ∷ 0x00 ∷ 0x00
    ∷ 0x10 ∷ 0xb1 ∷ 0x02 ∷ 0x00 ∷ 0x04 ∷ 0x00 ∷ 0x20 ∷ 0x00
    ∷ 0x16 ∷ 0x00 ∷ 0x20 ∷ 0x00 ∷ 0x01 ∷ 0x00 ∷ 0x00 ∷ 0x00
    ∷ 0x03 ∷ 0x00 ∷ 0x00 ∷ 0x00 ∷ 0x00 ∷ 0x00 ∷ 0x10 ∷ 0x00
    ∷ 0x80 ∷ 0x00 ∷ 0x00 ∷ 0xaa ∷ 0x00 ∷ 0x38 ∷ 0x9b ∷ 0x71 ∷ 0x00 ∷ 0x00 ∷ []

abbrev pub mono_float : WavSpecEx
mono_float = record {
  spec = record { channels = 1; sample_rate = 44100; bits_per_sample = 32; sample_format = Float };
  bytes_per_sample = 4;
}

-- RIFF, a size and WAVE
abbrev pub front : List ℕ
front = riff_tag ++ (0x00 ∷ 0x00 ∷ 0x00 ∷ 0x00 ∷ []) ++ wave_tag

-- the file of one float, 1.0
abbrev pub long_fmt : List ℕ
long_fmt = front ++ fmt_tag ++ (0x2a ∷ 0x00 ∷ 0x00 ∷ 0x00 ∷ []) ++ float_fmt
    ++ data_tag ++ (0x04 ∷ 0x00 ∷ 0x00 ∷ 0x00 ∷ []) ++ (0x00 ∷ 0x00 ∷ 0x80 ∷ 0x3f ∷ [])

-- junk of a length that passes the limit
abbrev pub past_the_limit : List ℕ
past_the_limit = front ++ junk_tag ++ (0xff ∷ 0xff ∷ 0xff ∷ 0xff ∷ 0x00 ∷ 0x00 ∷ [])

-- Junk after a fmt chunk: of an odd length whose pad byte passes the limit, and of the largest length within it.
abbrev pub odd_at_the_limit : List ℕ
odd_at_the_limit = mono_front ++ junk_tag ++ (0xdf ∷ 0xff ∷ 0xff ∷ 0xff ∷ [])

abbrev pub even_at_the_limit : List ℕ
even_at_the_limit = mono_front ++ junk_tag ++ (0xde ∷ 0xff ∷ 0xff ∷ 0xff ∷ [])

-- a fmt chunk of a length that passes the limit
abbrev pub fmt_at_the_limit : List ℕ
fmt_at_the_limit = front ++ fmt_tag ++ (0xff ∷ 0xff ∷ 0xff ∷ 0xff ∷ []) ++ mono_fmt

-- the containers with these bytes and bits are these numbers
abbrev pub AreRead : ℕ → ℕ → List ℕ → List ℤ → Type 0
AreRead width bits bytes numbers = map (int_meaning width bits) (containers width (length numbers) bytes) ≡ numbers
