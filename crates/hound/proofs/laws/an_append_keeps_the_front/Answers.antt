use Rattle.hound.proofs.Keeping.{front_left}
use Rattle.hound.proofs.laws.an_append_keeps_the_front.Goals as goal

pub returns : goal.returns
returns g c modelled =
    let M = g.M.Placed in
    front_left M modelled
