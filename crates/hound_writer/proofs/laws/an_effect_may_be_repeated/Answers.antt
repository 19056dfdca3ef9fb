use Rattle.hound_writer.proofs.Repeating.{repeated_survives, repeats_begun, repeats_itself, repeats_more, synced_once, written_once}
use Rattle.hound_writer.proofs.laws.an_effect_may_be_repeated.Goals as goal

pub returns-clause-once : goal.returns-clause-once
returns-clause-once c = repeats_itself

pub returns-clause-begun : goal.returns-clause-begun
returns-clause-begun c = repeats_begun

pub returns-clause-again : goal.returns-clause-again
returns-clause-again c = repeats_more

pub returns-clause-written : goal.returns-clause-written
returns-clause-written c at bytes m n old new result said within repeats puts is small =
    written_once at bytes m.state m.replays n old new within repeats result puts said is small

pub returns-clause-synced : goal.returns-clause-synced
returns-clause-synced c = synced_once

pub returns-clause-survives : goal.returns-clause-survives
returns-clause-survives c = repeated_survives
