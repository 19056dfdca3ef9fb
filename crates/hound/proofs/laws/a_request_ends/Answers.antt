use Rattle.hound.proofs.Ending.{at_most, nearer, not_farther}
use Rattle.hound.proofs.laws.a_request_ends.Goals as goal

pub returns-clause-nearer : goal.returns-clause-nearer
returns-clause-nearer c = nearer

pub returns-clause-again : goal.returns-clause-again
returns-clause-again c = not_farther

pub returns-clause-bounded : goal.returns-clause-bounded
returns-clause-bounded c = at_most
