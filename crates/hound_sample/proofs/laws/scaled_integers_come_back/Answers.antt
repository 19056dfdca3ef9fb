use Rattle.hound_sample.proofs.Floats.{doubles_come_back, floats_come_back}
use Rattle.hound_sample.proofs.laws.scaled_integers_come_back.Goals as goal

pub returns-clause-floats : goal.returns-clause-floats
returns-clause-floats c = floats_come_back

pub returns-clause-doubles : goal.returns-clause-doubles
returns-clause-doubles c = doubles_come_back
