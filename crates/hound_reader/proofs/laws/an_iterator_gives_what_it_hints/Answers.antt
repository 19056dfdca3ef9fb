use Rattle.hound_reader.proofs.ItemLemmas.{items_all, none_beyond}
use Rattle.hound_reader.proofs.laws.an_iterator_gives_what_it_hints.Goals as goal

pub returns-clause-after : goal.returns-clause-after
returns-clause-after g c = items_all g.R.Read.remaining g.S.Sample.rejection g.S.Sample.meaning

pub returns-clause-inside : goal.returns-clause-inside
returns-clause-inside g c = none_beyond g.R.Read.remaining g.S.Sample.rejection g.S.Sample.meaning
