use Rattle.hound.proofs.Within.{left_within}
use Rattle.hound.proofs.laws.what_a_loss_leaves.Goals as goal

pub returns : goal.returns
returns g c tells keeps = left_within {g = g.M.Placed} (g.met.M.Medium.replays) tells keeps
