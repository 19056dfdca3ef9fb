use Rattle.hound_repair.proofs.Ending.{as_many, at_most, ended, failed, nearer}
use Rattle.hound_repair.proofs.laws.a_repair_ends.Goals as goal

pub returns-clause-nearer : goal.returns-clause-nearer
returns-clause-nearer c = nearer

pub returns-clause-again : goal.returns-clause-again
returns-clause-again c = as_many

pub returns-clause-ended : goal.returns-clause-ended
returns-clause-ended c = ended

pub returns-clause-failed : goal.returns-clause-failed
returns-clause-failed c = failed

pub returns-clause-bounded : goal.returns-clause-bounded
returns-clause-bounded c = at_most
