use Rattle.hound_repair.proofs.Stopped.{finished_by_effects, resumed_by_effects, still_repairable}
use Rattle.hound_repair.proofs.laws.a_stopped_repair_is_done_again.Goals as goal

pub returns-clause-same : goal.returns-clause-same
returns-clause-same c = λ looks again old mid new found other len start at apart some half second alone.
    resumed_by_effects looks old mid found len start at apart some half again new other second alone

pub returns-clause-finished : goal.returns-clause-finished
returns-clause-finished c = λ looks again old mid new found other len start at apart some half second puts.
    finished_by_effects looks old mid found len start at apart some half again new other second puts

pub returns-clause-fault : goal.returns-clause-fault
returns-clause-fault c = still_repairable
