use Rattle.std.proofs.Common.{◌≡◌, ℕ, ◌+◌, ◌≤◌, [], ◌∷◌, ◌++◌, List, length, None, Some, inr, refl, arith}
use Rattle.hound_number.specs.{number}
use Rattle.hound_spec.specs.{data_tag, fmt_tag, greatest_u32, riff_tag, wave_tag}
use Rattle.hound_spec.specs.declared.spec.WavSpecEx.{WavSpecEx}
use Rattle.hound_walk.specs.{Chunk, Chunks, Head, IsChunk, Walk, joined, last_spec, spec_after, chunk_fault, content_fault, fmt_said, wave_format, by_tag, wave_format_pcm, wave_format_extensible}
use Rattle.hound_tests.specs.Files.{mono_fmt, float_fmt, fact_tag, four_containers, junk_tag}
use Rattle.hound_tests.proofs.layers.definitions.definitions_at_files.Goals as goal

-- the length of a chunk below 256
abbrev length_of : ℕ → List ℕ
length_of n = n ∷ 0x00 ∷ 0x00 ∷ 0x00 ∷ []

abbrev fmt_chunk : Chunk
fmt_chunk = record { tag = fmt_tag; size = length_of 0x10; content = mono_fmt }

abbrev float_chunk : Chunk
float_chunk = record { tag = fmt_tag; size = length_of 0x2a; content = float_fmt }

abbrev long_fact_chunk : Chunk
long_fact_chunk =
    record {
      tag = fact_tag;
      size = length_of 0x08;
      content = 0x04 ∷ 0x00 ∷ 0x00 ∷ 0x00 ∷ 0x00 ∷ 0x00 ∷ 0x00 ∷ 0x00 ∷ [];
    }

abbrev empty_fact_chunk : Chunk
empty_fact_chunk = record { tag = fact_tag; size = length_of 0x00; content = [] }

abbrev junk_chunk : Chunk
junk_chunk =
    record { tag = junk_tag; size = length_of 0x03; content = 0x61 ∷ 0x62 ∷ 0x63 ∷ 0x00 ∷ [] }

-- the fmt chunk of 16 bits, as the only one before others
fmt_is : IsChunk fmt_chunk
unfolding fmt_said wave_format by_tag wave_format_pcm
fmt_is = record { tag = refl; size = refl; content = refl; other = refl; sound = refl }

-- chunks from the front on
walked : (chunks : List Chunk) (riff rest : List ℕ) → length riff ≡ 4 → Chunks 0 chunks
    → Walk (riff_tag ++ (riff ++ (wave_tag ++ (joined chunks ++ rest)))) chunks rest
walked chunks riff rest four each = record { size = riff; four = four; whole = refl; each = each }

-- and a data chunk after them
headed : (chunks : List Chunk) (s : WavSpecEx) (riff size rest : List ℕ) → length riff ≡ 4
    → length size ≡ 4 → Chunks 0 chunks → length (joined chunks) + 8 ≤ greatest_u32
    → last_spec None chunks ≡ Some s
    → Head (riff_tag ++ (riff ++ (wave_tag ++ (joined chunks ++ (data_tag ++ (size ++ rest))))))
    s (number size) (12 + length (joined chunks) + 8)
headed chunks s riff size rest four long each limit spec_is = record {
  chunks = chunks;
  size = size;
  rest = rest;
  walk = walked chunks riff (data_tag ++ (size ++ rest)) four each;
  four = long;
  data_len = refl;
  limit = limit;
  spec_is = spec_is;
  place = refl;
}

pub returns-clause-four_samples : goal.returns-clause-four_samples
unfolding spec_after fmt_said wave_format by_tag wave_format_pcm
returns-clause-four_samples c =
    headed (fmt_chunk ∷ []) _ (length_of 0x2c) (length_of 0x08) four_containers refl refl
    (fmt_is, omega arith, tt) (omega arith) refl

pub returns-clause-long_fact : goal.returns-clause-long_fact
unfolding spec_after fmt_said wave_format by_tag wave_format_pcm
returns-clause-long_fact c =
    headed (fmt_chunk ∷ long_fact_chunk ∷ []) _ (length_of 0x2c) (length_of 0x08) four_containers refl refl (
      fmt_is,
      omega arith,
      (
        record { tag = refl; size = refl; content = refl; other = refl; sound = refl },
        omega arith,
        tt,
      ),
    ) (omega arith) refl

pub returns-clause-empty_fact : goal.returns-clause-empty_fact
unfolding spec_after fmt_said wave_format by_tag wave_format_pcm
returns-clause-empty_fact c =
    headed (fmt_chunk ∷ empty_fact_chunk ∷ []) _ (length_of 0x2c) (length_of 0x08) four_containers refl refl (
      fmt_is,
      omega arith,
      (
        record { tag = refl; size = refl; content = refl; other = refl; sound = refl },
        omega arith,
        tt,
      ),
    ) (omega arith) refl

pub returns-clause-odd_junk : goal.returns-clause-odd_junk
unfolding spec_after fmt_said wave_format by_tag wave_format_pcm
returns-clause-odd_junk c =
    headed (fmt_chunk ∷ junk_chunk ∷ []) _ (length_of 0x2c) (length_of 0x08) four_containers refl refl (
      fmt_is,
      omega arith,
      (
        record { tag = refl; size = refl; content = refl; other = refl; sound = refl },
        omega arith,
        tt,
      ),
    ) (omega arith) refl

pub returns-clause-long_fmt : goal.returns-clause-long_fmt
unfolding spec_after fmt_said wave_format by_tag wave_format_extensible
returns-clause-long_fmt c =
    headed (float_chunk ∷ []) _ (length_of 0x00) (length_of 0x04) (0x00 ∷ 0x00 ∷ 0x80 ∷ 0x3f ∷ []) refl refl
    (record { tag = refl; size = refl; content = refl; other = refl; sound = refl }, omega arith, tt) (omega arith) refl

pub returns-clause-cut : goal.returns-clause-cut
unfolding chunk_fault content_fault fmt_said
returns-clause-cut c = inr ([], _, walked [] (length_of 0x2c) _ refl tt, refl)

pub returns-clause-limit : goal.returns-clause-limit
unfolding chunk_fault content_fault
returns-clause-limit c = inr ([], _, walked [] (length_of 0x00) _ refl tt, refl)

pub returns-clause-fmt_limit : goal.returns-clause-fmt_limit
unfolding chunk_fault content_fault
returns-clause-fmt_limit c = inr ([], _, walked [] (length_of 0x00) _ refl tt, refl)

pub returns-clause-odd_limit : goal.returns-clause-odd_limit
unfolding spec_after chunk_fault content_fault fmt_said wave_format by_tag wave_format_pcm
returns-clause-odd_limit c =
    inr (fmt_chunk ∷ [], _, walked (fmt_chunk ∷ []) (length_of 0x2c) _ refl (fmt_is, omega arith, tt), refl)

pub returns-clause-even_limit : goal.returns-clause-even_limit
unfolding spec_after chunk_fault content_fault fmt_said wave_format by_tag wave_format_pcm
returns-clause-even_limit c =
    inr (fmt_chunk ∷ [], _, walked (fmt_chunk ∷ []) (length_of 0x2c) _ refl (fmt_is, omega arith, tt), refl)
