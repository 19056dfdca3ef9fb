use Rattle.hound.proofs.Following.{counted, header_there, reads, reads_one_by_one, same_length}
use Rattle.hound.proofs.laws.a_follower_reads_accepted_samples.Goals as goal

pub returns-clause-counted : goal.returns-clause-counted
returns-clause-counted c = counted

pub returns-clause-reads : goal.returns-clause-reads
returns-clause-reads c = reads

pub returns-clause-torn : goal.returns-clause-torn
returns-clause-torn c = reads_one_by_one

pub returns-clause-same : goal.returns-clause-same
returns-clause-same c = same_length

pub returns-clause-there : goal.returns-clause-there
returns-clause-there c = header_there
