use Rattle.hound_sample.proofs.Back.{integers_taken, integers_same}
use Rattle.hound_sample.proofs.laws.integers_come_back.Goals as goal

pub returns-clause-taken : goal.returns-clause-taken
returns-clause-taken c = integers_taken

pub returns-clause-same : goal.returns-clause-same
returns-clause-same c = integers_same
