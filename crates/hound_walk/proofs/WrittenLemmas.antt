-- A written header is a head.
use Rattle.std.proofs.Common.{rules}
use Rattle.std.proofs.lemmas.Grind.{common_steps}
use Rattle.std.proofs.Common.{◌≡◌, ℕ, ◌+◌, ◌*◌, ◌%◌, ◌^◌, ◌<◌, ◌≤◌, ◌==◌, true, false, List, [], ◌∷◌, ◌++◌, length, refl, sym, ap, ◌∙◌, arith, le-ltb, eq-eqb, lit<, Ok}
use Rattle.std.proofs.Math.Nat.{mul-div_cancel_left, le-mul_of_pos_right}
use Rattle.std.proofs.lemmas.Bool.{ne_eqb, cases_Bool, and_parts}
use Rattle.std.proofs.lemmas.Bool.Decides.{nat_tests}
use Rattle.hound_number.specs.{number, bytes_of}
use Rattle.hound_spec.specs.declared.spec.SampleFormat.{SampleFormat}
use Rattle.hound_spec.specs.declared.spec.SampleFormat.TheVariants.{Int, Float}
use Rattle.hound_spec.specs.declared.spec.WavSpecEx.{WavSpecEx}
use Rattle.hound_spec.specs.{IsPair, IsWritable, riff_tag, wave_tag, fmt_tag, data_tag, is_short, mask, fields, short_fmt, long_fmt, sized_fmt, header, data_start, fmt_bytes, fmt_fields, Extension, extension_bytes, subformat, pcm, extensible, greatest_u32}
use Rattle.hound_spec.proofs.FmtLemmas.{FieldsFit, number-bytes_of, fields_written}
use Rattle.hound_spec.proofs.WritableLemmas.{PairFacts, pair_facts}
use Rattle.hound_spec.proofs.HeaderLemmas.{sized_fmt-short, sized_fmt-long, length-long_fmt}
use Rattle.hound_walk.specs.Grammar.{wave_format, by_tag, wave_format_pcm, wave_format_extensible, fmt_said, fmt_of, Chunk, spec_after, Head, joined, fault_of, ok_of}

le_times : (a b : ℕ) → 0 < b → a ≤ b * a
le_times a b h = omega (arith, le-mul_of_pos_right {m = b} a h)

-- the fields of a spec fit in their bytes
fields_fit : (tag bits : ℕ) (s : WavSpecEx) → IsWritable s → tag < 256 ^ 2
    → bits ≤ 8 * s.bytes_per_sample → FieldsFit (fields tag bits s)
fields_fit tag bits s w small in_width = grind (arith, common_steps, pair_facts, le_times)

-- a spec with other bits and format
abbrev with_fields : WavSpecEx → ℕ → SampleFormat → WavSpecEx
with_fields s bits format =
    record {
      spec = record {
        channels = s.spec.channels;
        sample_rate = s.spec.sample_rate;
        bits_per_sample = bits;
        sample_format = format;
      };
      bytes_per_sample = s.bytes_per_sample;
    }

-- the fields of a spec pass every check
fields_pass : (tag bits : ℕ) (s : WavSpecEx) → IsWritable s → 0 < bits → bits % 8 ≡ 0
    → bits ≤ 8 * s.bytes_per_sample → wave_format (fields tag bits s) ≡ Ok (with_fields s bits Int)
unfolding wave_format
fields_pass tag bits s w some whole in_width =
    grind (arith, common_steps, pair_facts, mul-div_cancel_left, ne_eqb, le-ltb, eq-eqb)

-- and so do their bytes
bytes_pass : (tag bits : ℕ) (s : WavSpecEx) → IsWritable s → tag < 256 ^ 2 → 0 < bits → bits % 8 ≡ 0
    → bits ≤ 8 * s.bytes_per_sample
    → wave_format (fmt_fields (fmt_bytes (fields tag bits s))) ≡ Ok (with_fields s bits Int)
bytes_pass tag bits s w small some whole in_width =
    ap wave_format (fields_written (fields tag bits s) [] (fields_fit tag bits s w small in_width))
    ∙ fields_pass tag bits s w some whole in_width

-- the older fmt chunk is of integers
short_is_int : (f : SampleFormat) (b w : ℕ) → IsPair f b w → b ≤ 16 → f ≡ Int
short_is_int f b w p few = search rules

short_back : (s : WavSpecEx) → IsWritable s → s.spec.bits_per_sample ≤ 16 → fmt_of 16 (short_fmt s) ≡ Ok s
unfolding fmt_said by_tag wave_format_pcm
short_back s w few =
    let p = pair_facts s.spec.sample_format s.spec.bits_per_sample s.bytes_per_sample w.pair in
    let pass = bytes_pass pcm s.spec.bits_per_sample s w (lit< tt) p.some_bits p.whole_bytes p.in_width in
    let is_int = short_is_int s.spec.sample_format s.spec.bits_per_sample s.bytes_per_sample w.pair few in
    rw pass (ap (λ f. Ok (with_fields s s.spec.bits_per_sample f)) (sym is_int))

long_back : (s : WavSpecEx) → IsWritable s → fmt_of 40 (long_fmt s) ≡ Ok s
unfolding fmt_said by_tag wave_format_extensible
long_back s w = back s.spec.sample_format
  where
    p : PairFacts s.spec.bits_per_sample s.bytes_per_sample
    p = pair_facts s.spec.sample_format s.spec.bits_per_sample s.bytes_per_sample w.pair

    more : SampleFormat → Extension
    more f =
        record {
          valid_bits = s.spec.bits_per_sample;
          mask = mask s.spec.channels;
          subformat = subformat f;
        }

    valid : number (bytes_of 2 s.spec.bits_per_sample) ≡ s.spec.bits_per_sample
    valid = number-bytes_of 2 s.spec.bits_per_sample (omega (arith, p.in_width, p.few))

    some : (s.spec.bits_per_sample == 0) ≡ false
    some = ne_eqb s.spec.bits_per_sample 0 (λ e. omega (arith, p.some_bits))

    pass : wave_format (fmt_fields (fmt_bytes (fields extensible (8 * s.bytes_per_sample) s))) ≡ Ok
        (with_fields s (8 * s.bytes_per_sample) Int)
    pass = bytes_pass extensible (8 * s.bytes_per_sample) s w (lit< tt) (omega (arith, p.some))
        (omega arith) (omega arith)

    back : (f : SampleFormat) → fmt_of 40 (fmt_bytes (fields extensible (8 * s.bytes_per_sample) s) ++ bytes_of 2 22
        ++ extension_bytes (more f)) ≡ Ok (with_fields s s.spec.bits_per_sample f)
    back Int = rw (pass, valid, some) refl
    back Float = rw (pass, valid, some) refl

-- the fmt chunk of a header
abbrev fmt_chunk : ℕ → List ℕ → Chunk
fmt_chunk len content = record { tag = fmt_tag; size = bytes_of 4 len; content = content }

joined-one : (len : ℕ) (content rest : List ℕ)
    → joined (fmt_chunk len content ∷ []) ++ rest ≡ fmt_tag ++ (bytes_of 4 len ++ (content ++ rest))
joined-one len content rest = grind (arith, common_steps)

length-joined-one : (len : ℕ) (content : List ℕ) → length (joined (fmt_chunk len content ∷ [])) ≡ 8 + length content
length-joined-one len content = grind (arith, common_steps)

header-parts : (s : WavSpecEx) (size len n : ℕ) (content rest : List ℕ) → sized_fmt s ≡ bytes_of 4 n ++ content
    → header s size len ++ rest ≡ riff_tag ++
    (bytes_of 4 size ++ (wave_tag ++
    (fmt_tag ++ (bytes_of 4 n ++ (content ++ (data_tag ++ (bytes_of 4 len ++ rest)))))))
unfolding header
header-parts s size len n content rest e = grind (arith, common_steps)

-- a header with one fmt chunk that gives the spec
head_of : (s : WavSpecEx) (size len n : ℕ) (content rest : List ℕ)
    → sized_fmt s ≡ bytes_of 4 n ++ content → number (bytes_of 4 n) ≡ n → n ≤ 40 → n % 2 ≡ 0
    → length content ≡ n → fmt_of n content ≡ Ok s → len ≤ greatest_u32
    → Head (header s size len ++ rest) s len (28 + n)
unfolding spec_after
head_of s size len n content rest e back few even l read fits = record {
  chunks = fmt_chunk n content ∷ [];
  size = bytes_of 4 len;
  rest = rest;
  walk = record {
    size = bytes_of 4 size;
    four = refl;
    whole = header-parts s size len n content rest e ∙ ap (λ t. riff_tag ++ (bytes_of 4 size ++ (wave_tag ++ t)))
        (sym (joined-one n content (data_tag ++ (bytes_of 4 len ++ rest))));
    each = (
      record {
        tag = refl;
        size = refl;
        content = grind (arith, common_steps, l, back, even);
        other = refl;
        sound =
            rw back (ap fault_of read);
      },
      omega (arith, back, even),
      tt,
    );
  };
  four = refl;
  data_len = number-bytes_of 4 len (omega arith);
  limit = omega (arith, length-joined-one n content, l);
  spec_is = rw back (ap ok_of read);
  place = omega (arith, length-joined-one n content, l);
}

short_head : (s : WavSpecEx) (size len : ℕ) (rest : List ℕ) → IsWritable s → is_short s ≡ true
    → s.spec.bits_per_sample ≤ 16 → len ≤ greatest_u32 → Head (header s size len ++ rest) s len 44
short_head s size len rest w short few fits =
    head_of s size len 16 (short_fmt s) rest (sized_fmt-short s short) refl (omega arith) refl refl
    (short_back s w few) fits

long_head : (s : WavSpecEx) (size len : ℕ) (rest : List ℕ) → IsWritable s → is_short s ≡ false
    → len ≤ greatest_u32 → Head (header s size len ++ rest) s len 68
long_head s size len rest w long fits =
    head_of s size len 40 (long_fmt s) rest (sized_fmt-long s long) refl (omega arith) refl
    (length-long_fmt s) (long_back s w) fits

pub header_head : (s : WavSpecEx) (size len : ℕ) (rest : List ℕ) → IsWritable s → len ≤ greatest_u32
    → Head (header s size len ++ rest) s len (data_start s)
header_head s size len rest w fits =
    grind (arith, common_steps, cases_Bool, and_parts, short_head, nat_tests, long_head)
