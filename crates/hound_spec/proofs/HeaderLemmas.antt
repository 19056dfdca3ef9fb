-- How long a header is.
use Rattle.std.proofs.Common.{rules}
use Rattle.std.proofs.lemmas.Grind.{common_steps}
use Rattle.std.proofs.Common.{◌≡◌, ℕ, ◌+◌, ◌%◌, ◌≤◌, true, false, List, ◌++◌, length, refl, ◌∙◌, ap, arith, length-append}
use Rattle.std.proofs.lemmas.List.{length-replicate}
use Rattle.std.specs.List.{concat}
use Rattle.hound_number.specs.{bytes_of}
use Rattle.hound_spec.specs.declared.spec.SampleFormat.{SampleFormat}
use Rattle.hound_spec.specs.declared.spec.WavSpecEx.{WavSpecEx}
use Rattle.hound_spec.specs.Header.{subformat, is_short, riff_tag, wave_tag, fmt_tag, data_tag, short_fmt, long_fmt, sized_fmt, header, data_start, padding, canonical}

pub length-subformat : (f : SampleFormat) → length (subformat f) ≡ 16
length-subformat f = search rules

pub length-long_fmt : (s : WavSpecEx) → length (long_fmt s) ≡ 40
length-long_fmt s = simp length-append (omega (arith, length-subformat s.spec.sample_format))

-- the fmt chunk after its tag, in both forms
pub sized_fmt-short : (s : WavSpecEx) → is_short s ≡ true → sized_fmt s ≡ bytes_of 4 16 ++ short_fmt s
unfolding sized_fmt
sized_fmt-short s short = rw short refl

pub sized_fmt-long : (s : WavSpecEx) → is_short s ≡ false → sized_fmt s ≡ bytes_of 4 40 ++ long_fmt s
unfolding sized_fmt
sized_fmt-long s long = rw long refl

length-sized_fmt-short : (s : WavSpecEx) → is_short s ≡ true → length (sized_fmt s) ≡ 20
length-sized_fmt-short s short = ap length (sized_fmt-short s short)

length-sized_fmt-long : (s : WavSpecEx) → is_short s ≡ false → length (sized_fmt s) ≡ 44
length-sized_fmt-long s long = grind (arith, common_steps, length-append, length-long_fmt, sized_fmt-long)

pub length-header : (s : WavSpecEx) (size data_length : ℕ) → length (header s size data_length) ≡ data_start s
unfolding header
length-header s size data_length = grind (arith, common_steps, length-sized_fmt-short, length-sized_fmt-long)

-- what was written so far, and bytes after it
pub and_then : (more all old new : List ℕ) → old ≡ all → new ≡ old ++ more → new ≡ all ++ more
and_then more all old new so_far adds = adds ∙ ap (λ l. l ++ more) so_far

pub data_start_least : (s : WavSpecEx) → 44 ≤ data_start s
data_start_least s = grind (arith, common_steps)

-- what a header has between the RIFF size and the data length
abbrev pub described : WavSpecEx → List ℕ
described s = wave_tag ++ (fmt_tag ++ (sized_fmt s ++ data_tag))

-- a header, part by part
pub header-parts : (s : WavSpecEx) (size data_length : ℕ) → header s size data_length ≡ riff_tag ++
    (bytes_of 4 size ++ (described s ++ bytes_of 4 data_length))
unfolding header
header-parts s size data_length = grind (arith, common_steps)

pub length-described : (s : WavSpecEx) → length (described s) + 12 ≡ data_start s
length-described s =
    omega (
      arith,
      length-header s 0 0,
      ap length (header-parts s 0 0),
      length-append riff_tag (bytes_of 4 0 ++ (described s ++ bytes_of 4 0)),
      length-append (bytes_of 4 0) (described s ++ bytes_of 4 0),
      length-append (described s) (bytes_of 4 0),
    )

-- the pad byte is there for an odd length
pub length-padding : (n : ℕ) → length (padding n) ≡ n % 2
length-padding n = length-replicate (n % 2) 0

pub length-canonical : (s : WavSpecEx) (list : List (List ℕ))
    → length (canonical s list) ≡ data_start s + length (concat list) + length (concat list) % 2
length-canonical s list = grind (arith, common_steps, length-header)
