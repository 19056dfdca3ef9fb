-- The containers of a canonical file are read back.
use Rattle.std.proofs.lemmas.Grind.{common_steps}
use Rattle.std.proofs.Common.{◌≡◌, ℕ, ◌/◌, ◌%◌, List, ◌++◌, length, drop, drop_at, sym, ap, ◌∙◌, arith}
use Rattle.std.proofs.Math.Nat.{mul-mod_left, mul-div_cancel}
use Rattle.std.specs.List.{concat}
use Rattle.hound_spec.specs.declared.spec.WavSpecEx.{WavSpecEx}
use Rattle.hound_spec.specs.{IsWritable, header, data_start, riff_size, padding, canonical}
use Rattle.hound_spec.proofs.WritableLemmas.{pair_facts}
use Rattle.hound_spec.proofs.HeaderLemmas.{length-header}
use Rattle.hound_sample.specs.{containers}
use Rattle.hound_sample.proofs.Joined.{length-concat, containers-concat}
use Rattle.hound_walk.specs.{Readable}
use Rattle.hound_walk.proofs.WrittenLemmas.{header_head}
use Rattle.hound_reader.specs.Reader.{AreContainers}

-- what is written is read back
pub canonical_back : (s : WavSpecEx) (list : List (List ℕ)) → IsWritable s → AreContainers s list
    → Readable (canonical s list) s (length list) (data_start s)
    × (containers s.bytes_per_sample (length list) (drop (data_start s) (canonical s list)) ≡ list)
canonical_back s list w a =
    let bytes = concat list in
    let n = length-concat s.bytes_per_sample list a.each in
    let p = pair_facts s.spec.sample_format s.spec.bits_per_sample s.bytes_per_sample w.pair in
    let size = riff_size (data_start s) (length bytes) in
    let beyond = bytes ++ padding (length bytes) in
    let div : length bytes / s.bytes_per_sample ≡ length list = ap (λ t. t / s.bytes_per_sample) n
    ∙ mul-div_cancel (length list) p.some in
    let whole : length bytes % s.bytes_per_sample ≡ 0 = ap (λ t. t % s.bytes_per_sample) n
    ∙ mul-mod_left (length list) s.bytes_per_sample in (
      record {
        len = length bytes;
        head = header_head s size (length bytes) beyond w (omega (arith, a.fits, n));
        frames = grind (arith, common_steps, whole, div, a.frames);
        count = sym div;
      },
      ap (containers s.bytes_per_sample (length list)) (drop_at (header s size (length bytes)) beyond (data_start s)
          (length-header s size (length bytes)))
          ∙ containers-concat s.bytes_per_sample list (padding (length bytes)) a.each,
    )
