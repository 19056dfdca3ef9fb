use Rattle.std.proofs.lemmas.Grind.{common_steps}
use Rattle.std.proofs.Common.{arith}
use Rattle.hound_reader.proofs.SeekLemmas.{item_counted, took_counted, ahead_counted, item_passes, counted_after}
use Rattle.hound_reader.proofs.BlockLemmas.{run_takes}
use Rattle.hound_reader.proofs.laws.a_reader_is_where_it_counts.Goals as goal

pub returns-clause-item : goal.returns-clause-item
returns-clause-item g c = item_counted g.R.Read.remaining g.S.Sample.rejection g.S.Sample.meaning

pub returns-clause-block : goal.returns-clause-block
returns-clause-block g c bytes old new count result before after at_count block =
    grind (arith, common_steps, took_counted, run_takes)

pub returns-clause-passes_block : goal.returns-clause-passes_block
returns-clause-passes_block g c old new count result before after block place = grind (arith, common_steps, run_takes)

pub returns-clause-ahead : goal.returns-clause-ahead
returns-clause-ahead g c bytes time old new tells =
    ahead_counted g.R.Read.remaining g.R.Placed.state bytes time old new
    (g.met.R.Source.left old.reader tells) (g.met.R.Source.left new.reader tells)

pub returns-clause-passes : goal.returns-clause-passes
returns-clause-passes g c =
    item_passes g.R.Read.remaining g.R.Placed.state g.S.Sample.rejection g.S.Sample.meaning

pub returns-clause-place : goal.returns-clause-place
returns-clause-place g c start calls old new tells at_count run =
    (counted_after g.R.Read.remaining g.R.Placed.state
    (λ r. g.met.R.Source.left r tells) start calls old new at_count run).0
