use Rattle.std.proofs.Common.{map, Ok}
use Rattle.hound.specs.{GivesItems, taken_reader}
use Rattle.hound_callers.proofs.callers.samples_of.Given as goal

abbrev pub invariant-loop-sample : goal.invariant-loop-sample
invariant-loop-sample g l =
    GivesItems g.R.Read.remaining g.S.Sample.rejection g.S.Sample.meaning (map Ok l.samples.items)
    l.fn.reader (taken_reader l.sample-iterator)
