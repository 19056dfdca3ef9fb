use Rattle.hound_repair.proofs.Again.{second_repair}
use Rattle.hound_repair.proofs.laws.a_second_repair_writes_nothing.Goals as goal

pub returns : goal.returns
returns c = second_repair
