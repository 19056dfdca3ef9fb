use Rattle.hound_writer.proofs.Cutting.{agree_cut, agree_written}
use Rattle.hound_writer.proofs.laws.a_cut_is_ignored.Goals as goal

pub returns-clause-cut : goal.returns-clause-cut
returns-clause-cut c = agree_cut

pub returns-clause-written : goal.returns-clause-written
returns-clause-written c = agree_written
