-- What writing and appending do.
use Rattle.std.specs.Prelude.{◌≡◌, ◌⊎◌, ℕ, ◌+◌, ◌-◌, ◌*◌, ◌/◌, ◌%◌, ◌<◌, ◌≤◌, List, [], ◌∷◌, codes, length, take, drop, ◌++◌, Result, Ok, Err, ◌==◌, nat_lt, if◌then◌else◌}
use Rattle.std.specs.List.{concat}
use Rattle.hound_number.specs.{bytes_of}
use Rattle.hound_spec.specs.{greatest_u32, canonical, data_start, header, padded, padding, riff_size, IsPair, IsWritable}
use Rattle.hound_spec.specs.declared.spec.SampleFormat.{SampleFormat}
use Rattle.hound_spec.specs.declared.spec.SampleFormat.TheVariants.{Int, Float}
use Rattle.hound_spec.specs.declared.spec.WavSpecEx.{WavSpecEx}
use Rattle.hound_sample.specs.{Rejection, too_wide, unsupported, containers}
use Rattle.hound_walk.specs.{Readable, Unreadable}
use Rattle.hound_writer.specs.{containers_in, ReadsAs, with_sizes}
use Rattle.hound_slices.specs.declared.error.CallError.{CallError}
use Rattle.hound_slices.specs.declared.error.CallError.TheVariants.{Head, OtherFormat, TooWide, NotWritable, Truncated, TooLong, UnfinishedFrame, NoRoom}
use Rattle.hound_slices.specs.declared.spec.HoundSpec.{HoundSpec}

-- The spec that C's is. A number that is no format gives a spec without bits: no samples of it are read or written.
abbrev pub spec_from_c : HoundSpec → WavSpecEx
spec_from_c c = record {
  spec = record {
    channels = c.channels;
    sample_rate = c.sample_rate;
    bits_per_sample = if nat_lt 1 c.sample_format then 0 else c.bits_per_sample;
    sample_format = if c.sample_format == 0 then Int else Float;
  };
  bytes_per_sample = if c.bytes_per_sample == 0 then (c.bits_per_sample + 7) / 8 else c.bytes_per_sample;
}

-- a spec as C gets one: the width is not left out, and the format is 0 or 1
abbrev pub IsExplicit : HoundSpec → Type 0
IsExplicit c = (0 < c.bytes_per_sample) × (c.sample_format ≤ 1)

-- why values of a format have no containers of a spec
abbrev pub IsUnencoded : {V : Type 0} → SampleFormat → (V → ℕ → ℕ → Result (List ℕ) Rejection)
    → WavSpecEx → List V → CallError → Type 0
IsUnencoded format container s values OtherFormat = s.spec.sample_format ≡ format → ⊥
IsUnencoded format container s values NotWritable =
    (IsPair s.spec.sample_format s.spec.bits_per_sample s.bytes_per_sample → ⊥)
    ⊎ ((s.spec.sample_format ≡ format) × (containers_in container s values ≡ Err unsupported))
IsUnencoded format container s values TooWide =
    (s.spec.sample_format ≡ format) × (containers_in container s values ≡ Err too_wide)
IsUnencoded format container s values _ = ⊥

-- how many bytes the file of so many samples has
abbrev pub file_size : WavSpecEx → ℕ → ℕ
file_size s count = data_start s + padded (count * s.bytes_per_sample)

-- why so many samples after a header of this length are no file
abbrev pub IsSizeError : WavSpecEx → ℕ → ℕ → CallError → Type 0
IsSizeError s start count UnfinishedFrame = (1 ≤ s.spec.channels) × (count % s.spec.channels ≡ 0 → ⊥)
IsSizeError s start count TooLong = greatest_u32 < riff_size start (count * s.bytes_per_sample)
IsSizeError s start count _ = ⊥

-- so many samples after a header of this length are a file: whole frames, and sizes of 32 bits
abbrev pub IsFile : WavSpecEx → ℕ → ℕ → Type 0
IsFile s start count = (count % s.spec.channels ≡ 0) × (riff_size start (count * s.bytes_per_sample) ≤ greatest_u32)

-- why a file isn't written
abbrev pub IsWriteError : {V : Type 0} → SampleFormat → (V → ℕ → ℕ → Result (List ℕ) Rejection)
    → WavSpecEx → List V → ℕ → CallError → Type 0
IsWriteError format container s values room OtherFormat = s.spec.sample_format ≡ format → ⊥
IsWriteError format container s values room NotWritable = (IsWritable s → ⊥)
    ⊎ ((s.spec.sample_format ≡ format) × (containers_in container s values ≡ Err unsupported))
IsWriteError format container s values room TooWide =
    (s.spec.sample_format ≡ format) × (containers_in container s values ≡ Err too_wide)
IsWriteError format container s values room NoRoom = room < file_size s (length values)
IsWriteError format container s values room error = IsSizeError s (data_start s) (length values) error

-- what writing does, by its outcome: the canonical file of the values is the front of the caller's memory, and the rest
-- stays; or all stays
abbrev pub WritesFile : {V : Type 0} → SampleFormat → (V → ℕ → ℕ → Result (List ℕ) Rejection) → WavSpecEx
    → List V → List ℕ → List ℕ → Result ℕ CallError → Type 0
WritesFile format container s values old new (Ok n) = IsWritable s × (s.spec.sample_format ≡ format)
    × (list : List (List ℕ)) × (containers_in container s values ≡ Ok list)
    × (take n new ≡ canonical s list) × (drop n new ≡ drop n old)
    × (n ≡ file_size s (length values)) × IsFile s (data_start s) (length values)
WritesFile format container s values old new (Err error) = (new ≡ old)
    × IsWriteError format container s values (length old) error

-- what the call that asks for a size does
abbrev pub Sizes : WavSpecEx → ℕ → Result ℕ CallError → Type 0
Sizes s count (Ok n) = IsWritable s × (n ≡ file_size s count) × IsFile s (data_start s) count
Sizes s count (Err NotWritable) = IsWritable s → ⊥
Sizes s count (Err error) = IsSizeError s (data_start s) count error

-- what the call for a header does: it is that of the canonical file of so many samples
abbrev pub GivesHeader : WavSpecEx → ℕ → List ℕ → List ℕ → Result ℕ CallError → Type 0
GivesHeader s count old new (Ok n) = IsWritable s × (n ≡ data_start s) × IsFile s (data_start s) count
    × (take n new ≡ header s (riff_size (data_start s) (count * s.bytes_per_sample)) (count * s.bytes_per_sample))
    × (drop n new ≡ drop n old)
GivesHeader s count old new (Err NotWritable) = (new ≡ old) × (IsWritable s → ⊥)
GivesHeader s count old new (Err NoRoom) = (new ≡ old) × (length old < data_start s)
GivesHeader s count old new (Err error) = (new ≡ old) × IsSizeError s (data_start s) count error

-- samples of a spec whose data begin at a place can be those of a file: its first chunk needs 20 bytes
abbrev pub CanBeginAt : WavSpecEx → ℕ → Type 0
CanBeginAt s start = IsPair s.spec.sample_format s.spec.bits_per_sample s.bytes_per_sample
    × (1 ≤ s.spec.channels) × (20 ≤ start)

-- what the call for the two sizes does: they are the RIFF size and the data length of the file of so many samples whose
-- data begin at a place, and n is how many bytes that file has
abbrev pub GivesSizes : WavSpecEx → ℕ → ℕ → List ℕ → List ℕ → Result ℕ CallError → Type 0
GivesSizes s start count old new (Ok n) = CanBeginAt s start × IsFile s start count
    × (n ≡ start + padded (count * s.bytes_per_sample))
    × (take 8 new ≡ bytes_of 4 (riff_size start (count * s.bytes_per_sample))
    ++ bytes_of 4 (count * s.bytes_per_sample)) × (drop 8 new ≡ drop 8 old)
GivesSizes s start count old new (Err NotWritable) = (new ≡ old) × (CanBeginAt s start → ⊥)
GivesSizes s start count old new (Err NoRoom) = (new ≡ old) × (length old < 8)
GivesSizes s start count old new (Err error) = (new ≡ old) × IsSizeError s start count error

-- the four bytes of the data length, which are before the data, are within one sector of 512 bytes
abbrev pub IsLengthInSector : ℕ → Type 0
IsLengthInSector start = (start - 4) / 512 ≡ (start - 1) / 512

-- a chunk of two bytes that say nothing (RIFF, "JUNK (Filler) Chunk")
abbrev pub filler : List ℕ
filler = codes "JUNK" ++ (bytes_of 4 2 ++ (0 ∷ 0 ∷ []))

-- What the call for a filler does: where the data length of data that would begin at this place is not within one
-- sector, a chunk before its header moves it there.
abbrev pub GivesFiller : ℕ → List ℕ → List ℕ → Result ℕ CallError → Type 0
GivesFiller start old new (Ok n) = ((n ≡ 0) × (new ≡ old) × IsLengthInSector start)
    ⊎ ((n ≡ 10) × (IsLengthInSector start → ⊥) × IsLengthInSector (start + n)
    × (take n new ≡ filler) × (drop n new ≡ drop n old))
GivesFiller start old new (Err error) = (error ≡ NoRoom) × (new ≡ old) × (IsLengthInSector start → ⊥)
    × (length old < 10)

-- What appending does. The header counts samples that are all among the first bytes; the new containers follow them,
-- then their pad byte, and the two sizes are those of all. So the first n bytes are read as the samples of before and
-- then the new ones, and no other byte changes.
pub record AppendsSamples {V : Type 0} (format : SampleFormat) (container : V → ℕ → ℕ → Result (List ℕ) Rejection)
    (values : List V) (used n : ℕ) (old new : List ℕ) : Type 0 where
  pub spec_ex : WavSpecEx
  pub samples : ℕ
  pub start : ℕ
  pub list : List (List ℕ)
  pub within : used ≤ length old
  pub readable : Readable (take used old) spec_ex samples start
  pub held : start + samples * spec_ex.bytes_per_sample ≤ used
  pub format_is : spec_ex.spec.sample_format ≡ format
  pub pair : IsPair spec_ex.spec.sample_format spec_ex.spec.bits_per_sample spec_ex.bytes_per_sample
  pub is : containers_in container spec_ex values ≡ Ok list
  pub file : IsFile spec_ex start (length values + samples)
  pub size : n ≡ start + padded ((length values + samples) * spec_ex.bytes_per_sample)
  pub room : n ≤ length old
  pub bytes : new ≡ with_sizes (start - 4) (n - 8) ((length values + samples) * spec_ex.bytes_per_sample)
      (take (start + samples * spec_ex.bytes_per_sample) old ++ ((concat list
      ++ padding ((length values + samples) * spec_ex.bytes_per_sample)) ++ drop n old))
  pub reads : ReadsAs spec_ex start
      (containers spec_ex.bytes_per_sample samples (drop start (take used old)) ++ list) (take n new)

-- why values aren't appended to a file of so many samples
abbrev pub IsRejectedBy : {V : Type 0} → SampleFormat → (V → ℕ → ℕ → Result (List ℕ) Rejection)
    → WavSpecEx → ℕ → ℕ → List V → ℕ → ℕ → CallError → Type 0
IsRejectedBy format container s samples start values used room Truncated = used < start + samples * s.bytes_per_sample
IsRejectedBy format container s samples start values used room NoRoom =
    room < start + padded ((length values + samples) * s.bytes_per_sample)
IsRejectedBy format container s samples start values used room TooLong =
    IsSizeError s start (length values + samples) TooLong
IsRejectedBy format container s samples start values used room UnfinishedFrame =
    IsSizeError s start (length values + samples) UnfinishedFrame
IsRejectedBy format container s samples start values used room error = IsUnencoded format container s values error

abbrev pub IsAppendingError : {V : Type 0} → SampleFormat → (V → ℕ → ℕ → Result (List ℕ) Rejection)
    → List V → ℕ → List ℕ → CallError → Type 0
IsAppendingError format container values used old (Head cause) = Unreadable (take used old) cause
IsAppendingError format container values used old error = ((error ≡ NoRoom) × (length old < used))
    ⊎ ((s : WavSpecEx) × (samples : ℕ) × (start : ℕ) × Readable (take used old) s samples start
    × IsRejectedBy format container s samples start values used (length old) error)

abbrev pub AppendsInPlace : {V : Type 0} → SampleFormat → (V → ℕ → ℕ → Result (List ℕ) Rejection) → List V
    → ℕ → List ℕ → List ℕ → Result ℕ CallError → Type 0
AppendsInPlace format container values used old new (Ok n) = AppendsSamples format container values used n old new
AppendsInPlace format container values used old new (Err error) = (new ≡ old)
    × IsAppendingError format container values used old error

-- why values aren't encoded
abbrev pub IsEncodeError : {V : Type 0} → SampleFormat → (V → ℕ → ℕ → Result (List ℕ) Rejection)
    → WavSpecEx → List V → ℕ → CallError → Type 0
IsEncodeError format container s values room NoRoom = room < length values * s.bytes_per_sample
IsEncodeError format container s values room error = IsUnencoded format container s values error

-- what encoding does, by its outcome: the containers of the values are the front of the caller's memory
abbrev pub Encodes : {V : Type 0} → SampleFormat → (V → ℕ → ℕ → Result (List ℕ) Rejection) → WavSpecEx
    → List V → List ℕ → List ℕ → Result ℕ CallError → Type 0
Encodes format container s values old new (Ok n) = (s.spec.sample_format ≡ format)
    × IsPair s.spec.sample_format s.spec.bits_per_sample s.bytes_per_sample
    × (list : List (List ℕ)) × (containers_in container s values ≡ Ok list)
    × (take n new ≡ concat list) × (drop n new ≡ drop n old) × (n ≡ length values * s.bytes_per_sample)
Encodes format container s values old new (Err error) = (new ≡ old)
    × IsEncodeError format container s values (length old) error
