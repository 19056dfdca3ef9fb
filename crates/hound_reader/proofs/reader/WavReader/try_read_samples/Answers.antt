use Rattle.std.proofs.Common.{◌+◌, ◌++◌, ℕ, List, take, drop, ap, sym, subst, arith, refl, Option, Some}
use Rattle.hound_sample.specs.{ReadsEach, answer_of, items_of}
use Rattle.hound_reader.specs.Reader.{HasGiven, ReadsBlock, ReaderState, block_bytes, meaning_at, rejection_at, requested, samples_left}
use Rattle.hound_walk.specs.{unread}
use Rattle.hound_reader.specs.declared.item.SavingReader.{SavingReader}
use Rattle.hound_reader.proofs.BlockLemmas.{is_block}
use Rattle.hound_reader.proofs.reader.WavReader.try_read_samples.Goals as goal

pub returns-clause-block : goal.returns-clause-block
returns-clause-block g c t =
    let r = c.self.inside in
    let read = c.get_many-count in
    let k = read.result.0 in
    let answer = read.result.2 in
    let xs = c.args.samples.now in
    let wanted = c.min-wanted.result in
    let fault = read.new.reader.fault in
    let before : ReaderState _ =
    record {
      reader = r.reader.reader;
      spec_ex = r.spec_ex;
      num_samples = r.num_samples;
      samples_read = r.samples_read;
      bytes_read = r.bytes_read;
    } in
    let new : ReaderState _ =
    record {
      reader = read.new.reader.reader;
      spec_ex = r.spec_ex;
      num_samples = r.num_samples;
      samples_read = r.samples_read + requested k answer;
      bytes_read = r.bytes_read + block_bytes k r.spec_ex.bytes_per_sample read.result.1 answer;
    } in
    let old_left = sym (g.met.R.Source.left r.reader.reader t) in
    let new_left = sym (g.met.R.Source.left new.reader t) in
    let each = λ (old left : Option (List ℕ)). ReadsEach (rejection_at g.S.Decode.decode_rejection r.spec_ex)
    (meaning_at g.S.Decode.value r.spec_ex) r.spec_ex.bytes_per_sample
    (items_of (take k read.new.samples) (answer_of answer fault)) old left in
    rw c.result_of-result.ensures
    (subst (λ end. ReadsBlock g.R.Read.remaining g.S.Decode.decode_rejection g.S.Decode.value k
    (answer_of answer fault) xs (read.new.samples ++ drop wanted xs) c.args.self.now end) (sym c.count_block.ensures)
    (subst (λ begin. ReadsBlock g.R.Read.remaining g.S.Decode.decode_rejection g.S.Decode.value k
    (answer_of answer fault) xs
    (read.new.samples ++ drop wanted xs) begin new) c.self.view_is
    (is_block g.R.Read.remaining g.S.Decode.decode_rejection g.S.Decode.value k wanted read.result.1 answer answer fault
    xs read.new.samples before new refl
    (omega (
      arith,
      c.min-wanted.ensures,
      c.samples_left.ensures,
      ap (λ (s : ReaderState _). samples_left s) c.self.view_is,
    ))
    read.auto.samples (omega (arith, c.self.ranges)) (omega (arith, c.self.ranges)) read.ensures.front
    (subst (λ left. each left (g.R.Read.remaining new.reader)) old_left
    (subst (λ left. each (Some (unread (g.R.Placed.state r.reader.reader))) left) new_left
    (read.ensures.answers t fault)))
    (subst (λ left. HasGiven left read.result.1 (g.R.Read.remaining new.reader)) old_left
    (subst (λ left. HasGiven (Some (unread (g.R.Placed.state r.reader.reader))) read.result.1 left) new_left
    (read.ensures.given t)))
    (λ some. ap (λ (k : SavingReader _). k.reader) (read.ensures.untouched some)) refl)))
