-- The specs that examples are of.
use Rattle.hound.specs.declared.SampleFormat.TheVariants.{Int}
use Rattle.hound.specs.{WavSpecEx}

-- one channel, 44100 Hz, 16 bits in two bytes
abbrev pub mono : WavSpecEx
mono = record {
  spec = record { channels = 1; sample_rate = 44100; bits_per_sample = 16; sample_format = Int };
  bytes_per_sample = 2;
}

-- two channels of these
abbrev pub stereo : WavSpecEx
stereo = record {
  spec = record { channels = 2; sample_rate = 44100; bits_per_sample = 16; sample_format = Int };
  bytes_per_sample = 2;
}
