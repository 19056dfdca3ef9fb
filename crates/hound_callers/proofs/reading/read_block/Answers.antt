use Rattle.std.proofs.Common.{◌∙◌, Result, arith, subst, sym, take}
use Rattle.std.proofs.lemmas.List.{length-take-le}
use Rattle.hound.specs.{Error, GivesItemsOfBytes, items_of}
use Rattle.hound_callers.proofs.reading.read_block.Goals as goal

pub returns-clause-same : goal.returns-clause-same
returns-clause-same g c known others other long gives =
    let read = c.read_samples-count in
    let count = read.result.0 in
    let samples = take count read.new.samples in
    c.a_block_is_its_items.ensures.same samples others c.args.reader.now read.new.self other known
    (length-take-le count read.new.samples (omega (arith, read.ensures.within)) ∙ sym long)
    (subst (λ (r : Result (Unit {0}) Error). GivesItemsOfBytes g.R.Read.remaining
    g.S.Sample.rejection g.S.Sample.meaning (items_of samples r) c.args.reader.now read.new.self)
    c.in_ok-result.was read.ensures.items) gives
