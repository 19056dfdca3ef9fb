use Rattle.hound.proofs.Knowing.{accepted, among, lasts, published}
use Rattle.hound.proofs.laws.what_is_known.Goals as goal

pub returns-clause-among : goal.returns-clause-among
returns-clause-among c = among

pub returns-clause-accepted : goal.returns-clause-accepted
returns-clause-accepted c = accepted

pub returns-clause-published : goal.returns-clause-published
returns-clause-published c = published

pub returns-clause-lasts : goal.returns-clause-lasts
returns-clause-lasts c = lasts
