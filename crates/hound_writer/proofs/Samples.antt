-- The accepted samples of a writer: those in the medium, and the buffered ones.
use Rattle.std.proofs.lemmas.Grind.{common_steps}
use Rattle.std.proofs.Common.{◌≡◌, Bool, ℕ, ◌+◌, ◌/◌, ◌%◌, List, [], ◌++◌, length, take, drop, sym, ◌∙◌, ap, arith}
use Rattle.std.proofs.lemmas.List.{append-nil}
use Rattle.std.specs.List.{concat}
use Rattle.hound_medium.specs.{MediumState}
use Rattle.hound_sample.specs.{containers}
use Rattle.hound_writer.specs.Writer.{Ghosts, Counts, WriterState, IsSound, IsValid, IsWhole, accepted_bytes, accepted_samples, data_length}
use Rattle.hound_writer.specs.Parts.{IsConsistent, CountsAtMost}
use Rattle.hound_sample.proofs.Containers.{length-containers}
use Rattle.hound_writer.proofs.Containers.{concat-containers, containers_cut, containers_join, count_bytes}
use Rattle.hound_writer.proofs.Counted.{counts_at_most, counts_more}

-- this many of the bytes are there
pub length-written : {W : Type 0} (state : W → MediumState) (w : WriterState W) → IsWhole state w
    → length (take w.bytes_written (drop w.data_start (state w.medium).contents)) ≡ w.bytes_written
length-written state w whole = grind (arith, common_steps)

pub length-accepted : {W : Type 0} (state : W → MediumState) (w : WriterState W) → IsWhole state w
    → length (accepted_bytes state w) ≡ data_length w
length-accepted state w whole = grind (arith, common_steps)

-- if more whole samples follow the accepted bytes they are accepted
pub samples_append : {W : Type 0} (state : W → MediumState) (w : WriterState W) (m : W) (written : ℕ)
    (buffered bytes : List ℕ) → IsSound w → IsWhole state w
    → written + length buffered ≡ data_length w + length bytes
    → take written (drop w.data_start (state m).contents) ++ buffered ≡ accepted_bytes state w ++ bytes
    → accepted_samples state (record w { medium = m; bytes_written = written; buffered = buffered })
    ≡ accepted_samples state w ++ containers w.spec_ex.bytes_per_sample
    (length bytes / w.spec_ex.bytes_per_sample) bytes
samples_append state w m written buffered bytes sound whole more is =
    grind (arith, common_steps, length-accepted, containers_join)

-- whole samples are in the medium
module _ {W : Type 0} (state : W → MediumState) (w : WriterState W) (sound : IsSound w)
    (whole_written : w.bytes_written % w.spec_ex.bytes_per_sample ≡ 0) where
  abbrev wide : ℕ
  wide = w.spec_ex.bytes_per_sample

  -- those in the medium, and the buffered ones
  pub samples_parts : IsWhole state w → accepted_samples state w ≡ containers w.spec_ex.bytes_per_sample
      (w.bytes_written / w.spec_ex.bytes_per_sample)
      (drop w.data_start (state w.medium).contents) ++ containers w.spec_ex.bytes_per_sample
      (length w.buffered / w.spec_ex.bytes_per_sample) w.buffered
  samples_parts whole = grind (arith, common_steps, length-written, containers_join, containers_cut)

  -- if the head is there and the bytes in the medium are the same they count
  pub counts_at : (c : List ℕ) → IsWhole state w → CountsAtMost w.spec_ex w.data_start w.bytes_written c
      → take w.bytes_written (drop w.data_start c) ≡ take w.bytes_written (drop w.data_start (state w.medium).contents)
      → Counts w.spec_ex w.data_start (accepted_samples state w) c
  counts_at c whole at_most same =
      let data_now = drop w.data_start (state w.medium).contents in
      let out_same : containers wide (w.bytes_written / wide) (drop w.data_start c)
      ≡ containers wide (w.bytes_written / wide) data_now = grind (arith, common_steps, containers_cut) in
      let buffered = containers wide (length w.buffered / wide) w.buffered in
      grind (arith, common_steps, counts_at_most, counts_more, samples_parts)

-- a writer with an empty block
module _ {W : Type 0} (state : W → MediumState) (w : WriterState W) (none : w.buffered ≡ []) where
  abbrev width : ℕ
  width = w.spec_ex.bytes_per_sample

  pub length_written : data_length w ≡ w.bytes_written
  length_written = omega (arith, ap length none)

  module _ (sound : IsSound w) where
    pub whole_written : w.bytes_written % w.spec_ex.bytes_per_sample ≡ 0
    whole_written = ap (λ n. n % width) (sym length_written) ∙ sound.whole

    -- they are the first containers of the data
    pub samples_out : accepted_samples state w ≡ containers w.spec_ex.bytes_per_sample
        (w.bytes_written / w.spec_ex.bytes_per_sample) (drop w.data_start (state w.medium).contents)
    samples_out = grind (arith, common_steps, length_written, append-nil, containers_cut, whole_written)

    pub length-samples : length (accepted_samples state w) ≡ w.bytes_written / w.spec_ex.bytes_per_sample
    length-samples = grind (arith, common_steps, samples_out, length-containers)

    -- joined they are the data
    pub concat-samples : concat (accepted_samples state w) ≡ take w.bytes_written
        (drop w.data_start (state w.medium).contents)
    concat-samples = grind (arith, common_steps, samples_out, concat-containers, count_bytes, whole_written)

-- what a writer keeps true is what holds of it
pub valid_of : {W : Type 0} (kind : Ghosts W) (moved : Bool) (limit : ℕ)
    (w : WriterState W) → IsConsistent kind w moved limit → IsValid kind w
valid_of kind moved limit w known = grind (arith, common_steps, counts_at, whole_written)
