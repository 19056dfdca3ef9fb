use Rattle.hound.proofs.Keeping.{holds_calls}
use Rattle.hound.proofs.laws.a_writer_holds_its_calls.Goals as goal

pub returns : goal.returns
returns g c modelled = holds_calls g.M.Placed modelled
