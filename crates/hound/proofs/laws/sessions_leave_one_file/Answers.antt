use Rattle.std.proofs.Common.{Ok}
use Rattle.hound.proofs.WholeSessions.{leave}
use Rattle.hound.proofs.laws.sessions_leave_one_file.Goals as goal

pub returns : goal.returns
returns g x modelled old new place empty some are =
    let M = g.M.Placed in
    ((leave M x.args.spec_ex old new modelled (λ m. g.met.M.Placed.bytes m modelled)
    place x.args.sessions.now (Ok tt) are).file some).1 empty
