use Rattle.hound_medium.proofs.Reading.{get_consumes}
use Rattle.hound_medium.proofs.journal.JournalRead.read.Goals as goal

pub returns-clause-bytes : goal.returns-clause-bytes
returns-clause-bytes c = get_consumes c.get.new.buf c.get.result _ _ c.get.ensures.gets
