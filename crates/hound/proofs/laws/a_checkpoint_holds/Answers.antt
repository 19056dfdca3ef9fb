use Rattle.hound.proofs.Checkpoints.{holds_at_each, holds_at_end}
use Rattle.hound.proofs.laws.a_checkpoint_holds.Goals as goal

pub returns-clause-at_end : goal.returns-clause-at_end
returns-clause-at_end c = holds_at_end

pub returns-clause-at_each : goal.returns-clause-at_each
returns-clause-at_each c = holds_at_each
