use Rattle.std.proofs.Common.{◌+◌, ◌++◌, drop, ap, sym, subst, arith, refl}
use Rattle.hound_sample.specs.{answer_of}
use Rattle.hound_reader.specs.Reader.{ReadsBlock, ReaderState, block_bytes, requested, samples_left}
use Rattle.hound_reader.specs.declared.item.SavingReader.{SavingReader}
use Rattle.hound_reader.proofs.BlockLemmas.{is_block}
use Rattle.hound_reader.proofs.reader.WavReader.read_samples.Goals as goal

pub returns : goal.returns
returns g c =
    let r = c.self.inside in
    let read = c.read_many_since-given in
    let k = read.new.answer.0 in
    let answer = read.new.answer.1 in
    let xs = c.args.samples.now in
    let wanted = c.min-wanted.result in
    let fault = read.result.0.now.fault in
    let new : ReaderState _ =
    record {
      reader = read.result.0.now.reader;
      spec_ex = r.spec_ex;
      num_samples = r.num_samples;
      samples_read = r.samples_read + requested k answer;
      bytes_read = r.bytes_read + block_bytes k r.spec_ex.bytes_per_sample read.result.1 answer;
    } in
    rw c.result_of-result.ensures (subst (λ end. ReadsBlock g.R.Read.remaining g.S.Sample.rejection g.S.Sample.meaning k
    (answer_of answer fault) xs (read.new.samples ++ drop wanted xs) c.args.self.now end) (sym c.count_block.ensures)
    (subst (λ begin. ReadsBlock g.R.Read.remaining g.S.Sample.rejection g.S.Sample.meaning k (answer_of answer fault) xs
    (read.new.samples ++ drop wanted xs) begin new) c.self.view_is
    (is_block g.R.Read.remaining g.S.Sample.rejection g.S.Sample.meaning k wanted read.result.1 answer answer fault xs
    read.new.samples _ new refl
    (omega (
      arith,
      c.min-wanted.ensures,
      c.samples_left.ensures,
      ap (λ (s : ReaderState _). samples_left s) c.self.view_is,
    ))
    read.auto.samples (omega (arith, c.self.ranges)) (omega (arith, c.self.ranges)) read.ensures.front
    (read.ensures.answers fault) read.ensures.given
    (λ some. ap (λ (k : SavingReader _). k.reader) (read.ensures.untouched some)) refl)))
