use Rattle.hound.proofs.Keeping.{left_holds, left_kept, left_so_far}
use Rattle.hound.proofs.laws.what_is_kept.Goals as goal

pub returns-clause-at_end : goal.returns-clause-at_end
returns-clause-at_end g c modelled s file known medium left =
    let M = g.M.Placed in
    left_holds M s file known medium left modelled

pub returns-clause-kept : goal.returns-clause-kept
returns-clause-kept g c modelled keeps s file known medium left =
    let M = g.M.Placed in
    left_kept M (g.met.M.Medium.replays) s file known medium left modelled keeps

pub returns-clause-so_far : goal.returns-clause-so_far
returns-clause-so_far g c = left_so_far g.M.Placed
