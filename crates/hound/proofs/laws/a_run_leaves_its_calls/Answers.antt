use Rattle.hound.proofs.Whole.{run_left}
use Rattle.hound.proofs.laws.a_run_leaves_its_calls.Goals as goal

pub returns : goal.returns
returns g x s marks end old medium answer run = run_left run
