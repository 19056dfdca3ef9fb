use Rattle.hound_repair.proofs.Keeping.{stays_stored, only_io}
use Rattle.hound_repair.proofs.laws.a_repair_keeps_stored_samples.Goals as goal

pub returns-clause-read : goal.returns-clause-read
returns-clause-read c = stays_stored

pub returns-clause-error : goal.returns-clause-error
returns-clause-error c = only_io
