use Rattle.hound.proofs.Knowing.{mark_is_ok}
use Rattle.hound.proofs.laws.a_write_is_marked_by_its_ok.Goals as goal

pub returns : goal.returns
returns g c = mark_is_ok
