use Rattle.hound_walk.proofs.Exists.{one_answer}
use Rattle.hound_walk.proofs.FileLemmas.{one_file_answer}
use Rattle.hound_walk.proofs.laws.one_answer.Goals as goal

pub returns-clause-head : goal.returns-clause-head
returns-clause-head c = one_answer

pub returns-clause-file : goal.returns-clause-file
returns-clause-file c = one_file_answer
