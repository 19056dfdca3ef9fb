use Rattle.hound_reader.proofs.ItemLemmas.{items_given, items_counted}
use Rattle.hound_reader.proofs.laws.items_are_of_the_file.Goals as goal

pub returns-clause-items : goal.returns-clause-items
returns-clause-items g c = items_given g.R.Read.remaining g.S.Sample.rejection g.S.Sample.meaning

pub returns-clause-counted : goal.returns-clause-counted
returns-clause-counted g c = items_counted g.R.Read.remaining g.S.Sample.rejection g.S.Sample.meaning
