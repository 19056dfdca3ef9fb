use Rattle.hound_reader.proofs.SeekLemmas.{sought_counted, sought_item, sought_there, item_after}
use Rattle.hound_reader.proofs.laws.a_seek_leads_to_its_frame.Goals as goal

pub returns-clause-place : goal.returns-clause-place
returns-clause-place g c = sought_counted g.R.Placed.state

pub returns-clause-item : goal.returns-clause-item
returns-clause-item g c start time old mid new next tells =
    sought_item g.R.Placed.state g.R.Read.remaining g.S.Sample.rejection g.S.Sample.meaning start time
    old mid new next (g.met.R.Source.left mid.reader tells)

pub returns-clause-there : goal.returns-clause-there
returns-clause-there g c = sought_there g.R.Placed.state

pub returns-clause-since_new : goal.returns-clause-since_new
returns-clause-since_new g c calls time first old mid new next tells =
    item_after g.R.Read.remaining g.R.Placed.state
    (λ r. g.met.R.Source.left r tells) g.S.Sample.rejection g.S.Sample.meaning calls time first old
    mid new next
