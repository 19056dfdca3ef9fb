use Rattle.std.proofs.Common.{◌≡◌, ◌<◌, ◌^◌, ℕ, ap, subst, sym, ◌∙◌, arith, ◌+◌, Some, Ok, Err}
use Rattle.hound_spec.specs.declared.spec.WavSpecEx.{WavSpecEx}
use Rattle.hound_reader.specs.Reader.{AnswersNext, taken_without, ReaderState}
use Rattle.hound_reader.specs.declared.item.SavingReader.{SavingReader}
use Rattle.hound_reader.proofs.BlockLemmas.{no_sample_is_given}
use Rattle.hound_reader.proofs.ItemLemmas.{a_sample_is_given}
use Rattle.hound_reader.proofs.reader.WavReader.next_item.Goals as goal

pub returns-in-Ok-clause-answers : goal.returns-in-Ok-clause-answers
returns-in-Ok-clause-answers g c =
    let r = c.self.inside in
    let left = g.R.Read.remaining in
    let rejection = g.S.Sample.rejection in
    let meaning = g.S.Sample.meaning in
    let read = c.read_item_since-given in
    let same : c.args.spec_ex ≡ r.spec_ex = c.requires ∙ sym (ap (λ (v : ReaderState _). v.spec_ex) c.self.view_is) in
    let new : ℕ → ReaderState _ =
    λ taken. record {
      reader = read.result.0.now.reader;
      spec_ex = r.spec_ex;
      num_samples = r.num_samples;
      samples_read = r.samples_read + 1;
      bytes_read = r.bytes_read + taken;
    } in
    let given = rw same at read.ensures.answers in
    subst (λ old. AnswersNext left rejection meaning (Some (Ok c.in-Ok.sample)) old
    (new c.args.spec_ex.bytes_per_sample)) c.self.view_is
    (a_sample_is_given left rejection meaning _ (new c.args.spec_ex.bytes_per_sample) read.new.answer
    read.result.0.now.fault c.in-Ok.sample (omega (arith, c.if-self.false))
    (ap new (ap (λ (s : WavSpecEx). s.bytes_per_sample) same)) (given read.result.0.now.fault)
    (λ some. ap (λ (k : SavingReader _). k.reader) ((rw same at read.ensures.untouched) some)) c.in-Ok.is)

pub returns-in-Err-clause-answers : goal.returns-in-Err-clause-answers
returns-in-Err-clause-answers g c =
    let r = c.self.inside in
    let left = g.R.Read.remaining in
    let rejection = g.S.Sample.rejection in
    let meaning = g.S.Sample.meaning in
    let read = c.read_item_since-given in
    let reason = c.in-Err.no_sample in
    let same : c.args.spec_ex ≡ r.spec_ex = c.requires ∙ sym (ap (λ (v : ReaderState _). v.spec_ex) c.self.view_is) in
    let new : ℕ → ReaderState _ =
    λ taken. record {
      reader = read.result.0.now.reader;
      spec_ex = r.spec_ex;
      num_samples = r.num_samples;
      samples_read = r.samples_read + 1;
      bytes_read = r.bytes_read + taken;
    } in
    let given = rw (same, c.in-Err.is) at read.ensures.answers in
    let small : r.spec_ex.bytes_per_sample < 2 ^ 64 =
    omega (arith, c.self.invariant.sound.2, c.self.invariant.sound.0) in
    subst (λ old. AnswersNext left rejection meaning (Some (Err reason)) old (new c.taken_without.result))
    c.self.view_is
    (no_sample_is_given left rejection meaning _ (new c.taken_without.result) reason read.result.1
    (omega (arith, c.if-self.false)) small
    (ap new (c.taken_without.ensures
    ∙ ap (λ (s : WavSpecEx). taken_without reason read.result.1 s.bytes_per_sample) same)) given
    (λ some. ap (λ (k : SavingReader _). k.reader) ((rw same at read.ensures.untouched) some))
    read.ensures.given)
