use Rattle.std.proofs.Common.{refl}
use Rattle.hound.proofs.Whole.{ran}
use Rattle.hound.proofs.laws.calls_are_a_run.Goals as goal

pub returns : goal.returns
returns g x begin end old medium first last calls answer finished begins lead asked ends modelled =
    let M = g.M.Placed in
    ran M begin x.args.steps.now _ end old answer finished medium first last
    calls begins lead asked refl ends modelled (g.met.M.Medium.replays)
