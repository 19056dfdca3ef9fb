-- What the data length counts, if the head and the accepted samples are there.
use Rattle.std.proofs.lemmas.Grind.{common_steps}
use Rattle.std.proofs.Common.{◌≡◌, ℕ, ◌-◌, ◌/◌, ◌%◌, ◌<◌, ◌≤◌, List, ◌++◌, length, take, drop, Option, sym, ◌∙◌, ap, arith, length-append}
use Rattle.std.proofs.lemmas.List.{take_all, take-append-le}
use Rattle.std.proofs.lemmas.Nat.{div_below}
use Rattle.std.specs.List.{concat}
use Rattle.hound_spec.specs.declared.spec.WavSpecEx.{WavSpecEx}
use Rattle.hound_sample.specs.{containers}
use Rattle.hound_walk.specs.declared.cause.Cause.{Cause}
use Rattle.hound_walk.specs.{Head, data_fault}
use Rattle.hound_writer.specs.Writer.{field, Counts, ReadsFirst}
use Rattle.hound_sample.proofs.Containers.{length-containers}
use Rattle.hound_writer.proofs.Containers.{concat-containers, count_bytes, containers_first}

-- no more whole samples than there are in more bytes
pub samples_le : (m n width : ℕ) → 0 < width → m ≤ n → m / width ≤ n / width
samples_le m n width some le = grind (arith, common_steps)

reads_first : (s : WavSpecEx) (start n count : ℕ) (contents : List ℕ)
    → n / s.bytes_per_sample ≤ count → Head contents s n start → (fault : Option Cause)
    → data_fault s n ≡ fault
    → ReadsFirst fault s start n
    (containers s.bytes_per_sample count (drop start contents)) contents
reads_first s start n count contents le head fault is = grind (arith, common_steps, containers_first)

-- if the head is there and the field is at most n, the first n bytes of the data are counted
pub counts_at_most : (s : WavSpecEx) (start n : ℕ) (contents : List ℕ) → 1 ≤ s.bytes_per_sample
    → n % s.bytes_per_sample ≡ 0 → Head contents s (field (start - 4) contents) start
    → field (start - 4) contents ≤ n
    → Counts s start
    (containers s.bytes_per_sample (n / s.bytes_per_sample) (drop start contents)) contents
counts_at_most s start n contents some whole head counted =
    let width = s.bytes_per_sample in
    let bytes = drop start contents in
    let count = n / width in
    let all : take count (containers width count bytes) ≡ containers width count bytes =
    grind (arith, common_steps, take_all, length-containers) in
    record {
      samples = count;
      among = omega (arith, length-containers width count bytes);
      covers = omega (arith, counted, count_bytes n width whole);
      stored = sym (concat-containers width count bytes) ∙ ap concat (sym all);
      reads = grind (arith, common_steps, samples_le, reads_first);
    }

-- what is counted stays so when more is accepted
reads_more : (s : WavSpecEx) (start n : ℕ) (accepted more : List (List ℕ)) (contents : List ℕ)
    → n / s.bytes_per_sample ≤ length accepted → (fault : Option Cause)
    → ReadsFirst fault s start n accepted contents
    → ReadsFirst fault s start n (accepted ++ more) contents
reads_more s start n accepted more contents among fault reads = grind (arith, common_steps)

pub counts_more : (s : WavSpecEx) (start : ℕ) (accepted more : List (List ℕ)) (contents : List ℕ)
    → 1 ≤ s.bytes_per_sample → Counts s start accepted contents
    → Counts s start (accepted ++ more) contents
counts_more s start accepted more contents some counts =
    let n = field (start - 4) contents in
    let width = s.bytes_per_sample in
    let few : n / width ≤ length accepted = grind (arith, common_steps, div_below) in
    record {
      samples = counts.samples;
      among = omega (arith, counts.among, length-append accepted more);
      covers = counts.covers;
      stored = counts.stored ∙ ap concat (sym (take-append-le counts.samples accepted more counts.among));
      reads = reads_more s start n accepted more contents few (data_fault s n) counts.reads;
    }
