use Rattle.std.proofs.lemmas.Grind.{common_steps}
use Rattle.std.proofs.Common.{◌+◌, ◌++◌, drop, ap, sym, subst, arith, refl, Some}
use Rattle.std.proofs.lemmas.List.{take-append-le}
use Rattle.std.specs.Prelude.{IfErr}
use Rattle.hound_sample.specs.{answer_of}
use Rattle.hound_reader.specs.Blocks.{IsCauseOf}
use Rattle.hound_reader.specs.Reader.{ReadsBlock, ReaderState, block_bytes, requested, samples_left}
use Rattle.hound_reader.proofs.BlockLemmas.{is_block}
use Rattle.hound_reader.proofs.MemoryLemmas.{cause_of_end}
use Rattle.hound_reader.proofs.blocks.«WavReader+ref+slice+u8».decode_samples.Goals as goal

pub returns-clause-block : goal.returns-clause-block
returns-clause-block g c =
    let r = c.self.inside in
    let read = c.decode_many-count in
    let k = read.result.0 in
    let answer = read.result.2 in
    let xs = c.args.samples.now in
    let wanted = c.min-wanted.result in
    let fault = c.early_end.result in
    let new : ReaderState _ =
    record {
      reader = read.new.bytes;
      spec_ex = r.spec_ex;
      num_samples = r.num_samples;
      samples_read = r.samples_read + requested k answer;
      bytes_read = r.bytes_read + block_bytes k r.spec_ex.bytes_per_sample read.result.1 answer;
    } in
    rw c.result_of.ensures
    (subst (λ end. ReadsBlock (λ bytes. Some bytes.now) g.S.Decode.decode_rejection g.S.Decode.value k
    (answer_of answer fault) xs (read.new.samples ++ drop wanted xs) c.args.self.now end) (sym c.count_block.ensures)
    (subst (λ begin. ReadsBlock (λ bytes. Some bytes.now) g.S.Decode.decode_rejection g.S.Decode.value k
    (answer_of answer fault) xs
    (read.new.samples ++ drop wanted xs) begin new) c.self.view_is
    (is_block (λ bytes. Some bytes.now) g.S.Decode.decode_rejection g.S.Decode.value k wanted read.result.1 answer
    answer fault xs read.new.samples _ new refl
    (omega (
      arith,
      c.min-wanted.ensures,
      c.samples_left.ensures,
      ap (λ (s : ReaderState _). samples_left s) c.self.view_is,
    ))
    read.auto.samples (omega (arith, c.self.ranges)) (omega (arith, c.self.ranges)) read.ensures.front
    (read.ensures.answers fault) read.ensures.given
    read.ensures.untouched refl)))

pub returns-clause-samples : goal.returns-clause-samples
returns-clause-samples g c = grind (arith, common_steps, take-append-le)

pub returns-clause-cause : goal.returns-clause-cause
returns-clause-cause g c =
    let read = c.decode_many-count in
    let fault = c.early_end.result in
    rw c.result_of.ensures (subst (λ (v : ReaderState _). IfErr (answer_of read.result.2 fault)
    (IsCauseOf g.S.Decode.decode_rejection v.spec_ex read.result.0 v.reader.now)) c.self.view_is
    (cause_of_end g.S.Decode.decode_rejection c.self.inside.spec_ex read.result.0 c.self.inside.reader.reader.now
    read.result.2 fault c.early_end.ensures read.ensures.cause))
