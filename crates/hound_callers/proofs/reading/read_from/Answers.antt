use Rattle.std.proofs.Common.{◌≡◌, ◌∙◌, ℕ, ◌+◌, ◌*◌, List, [], ◌∷◌, length, map, drop, take, Option, Some, Result, Ok, Err, IfErr, ap, arith, inl, inr, rules, subst, sym}
use Rattle.std.proofs.lemmas.List.{length-take-le}
use Rattle.std.proofs.lemmas.Result.{IfErr-weaker}
use Rattle.hound.specs.{Error, GivesItems, GivesItemsOfBytes, IsIoError, ReaderState, ReadRejection, ReadsBlock, Seeks, IsWhereCounted, items_of, one_more, samples_before}
use Rattle.hound.specs.declared.SampleFormat.{SampleFormat}
use Rattle.hound_callers.proofs.reading.read_from.Goals as goal

-- samples take their containers
took : {R A : Type 0} (left : R → Option (List ℕ)) (rejection : SampleFormat → ℕ → ℕ → Option ReadRejection)
    (meaning : SampleFormat → ℕ → ℕ → List ℕ → A) (values : List A) (old new : ReaderState R)
    → GivesItems left rejection meaning (map Ok values) old new
    → new.bytes_read ≡ old.bytes_read + length values * old.spec_ex.bytes_per_sample
took left rejection meaning [] old new is =
    omega (arith, ap (λ (r : ReaderState _). r.bytes_read) is)
took left rejection meaning (value ∷ values) old new (mid, given, others) =
    omega (
      arith,
      given.bytes,
      took left rejection meaning values mid new others,
      ap (λ s. length values * s.bytes_per_sample) given.spec_ex,
    )

pub returns-clause-rest : goal.returns-clause-rest
returns-clause-rest g c modelled bytes is =
    let reader = c.args.reader in
    let state = g.R.Placed.state in
    let left = g.R.Read.remaining in
    let read = c.read_samples-count in
    let count = read.result.0 in
    let samples = take count read.new.samples in
    let mid = c.seek.new.self in
    let last = read.new.self in
    let seeks : Seeks state c.args.time reader mid = record {
      counts = c.in_ok-seek.ensures.counts;
      source = c.in_ok-seek.ensures.source modelled;
    } in
    let law = c.a_reader_is_where_it_counts.ensures in
    let first : IsWhereCounted left bytes reader =
    subst (λ n. left reader.reader ≡ Some (drop n bytes)) (sym c.requires) is in
    let sought : IsWhereCounted left bytes mid =
    law.ahead bytes c.args.time reader mid modelled first seeks (omega (arith, c.requires)) in
    let block : IsWhereCounted left bytes last =
    law.block bytes mid last count read.result.1 c.args.block.now read.new.samples sought read.ensures in
    let long : length samples ≡ count = length-take-le count read.new.samples (omega (arith, read.ensures.within)) in
    let taken = took (λ (b : Option (List ℕ)). b) g.S.Sample.rejection g.S.Sample.meaning samples _ _
    (subst (λ (r : Result (Unit {0}) Error). GivesItemsOfBytes left g.S.Sample.rejection
    g.S.Sample.meaning (items_of samples r) mid last) c.in_ok-result.was read.ensures.items) in
    let width = reader.spec_ex.bytes_per_sample in
    let before = samples_before c.args.time reader.spec_ex in
    let both : (before + count) * width ≡ before * width + count * width = omega arith in
    let all : last.bytes_read ≡ (before + count) * width = omega (
      arith,
      taken,
      seeks.counts.bytes,
      both,
      ap (λ n. n * mid.spec_ex.bytes_per_sample) long,
      ap (λ s. count * s.bytes_per_sample) seeks.counts.spec_ex,
    ) in
    ap left c.into_inner.ensures ∙ block ∙ ap (λ n. Some (drop n bytes)) all

pub returns-in_err-seek-clause-err : goal.returns-in_err-seek-clause-err
returns-in_err-seek-clause-err g c modelled =
    let state = g.R.Placed.state in
    let last = c.seek.new.self in
    let failed : IfErr c.from_residual.result (λ e. IsIoError e
    × ((state last.reader).faults ≡ one_more (state c.args.reader.reader).faults)) = search rules in
    IfErr-weaker c.from_residual.result _ _ (λ e (io, one). inl (io, last, one)) failed

pub returns-in_err-result-clause-err : goal.returns-in_err-result-clause-err
returns-in_err-result-clause-err g c modelled =
    let read = c.read_samples-count in
    let mid = c.seek.new.self in
    let seeks : Seeks g.R.Placed.state c.args.time c.args.reader mid = record {
      counts = c.in_ok-seek.ensures.counts;
      source = c.in_ok-seek.ensures.source modelled;
    } in
    let failed : IfErr c.from_residual-in_err-result.result (λ e. ReadsBlock g.R.Read.remaining g.S.Sample.rejection
    g.S.Sample.meaning read.result.0 (Err e) c.args.block.now read.new.samples mid read.new.self) = search rules in
    IfErr-weaker c.from_residual-in_err-result.result _ _
    (λ e reads. inr (mid, read.new.self, seeks, read.result.0, reads)) failed
