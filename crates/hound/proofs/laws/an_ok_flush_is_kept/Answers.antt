use Rattle.std.proofs.Common.{arith, ap, ◌∙◌, ◌++◌}
use Rattle.hound_writer.specs.{found_in}
use Rattle.hound.proofs.Calling.{lead_begins}
use Rattle.hound.proofs.Checkpoints.{ok_holds_at_each}
use Rattle.hound.proofs.Keeping.{kept_on}
use Rattle.hound.proofs.OkFlush.{ok_end, ok_now}
use Rattle.hound.proofs.laws.an_ok_flush_is_kept.Goals as goal

pub returns-clause-now : goal.returns-clause-now
returns-clause-now g c modelled = ok_now g.M.Placed modelled

pub returns-clause-at_each : goal.returns-clause-at_each
returns-clause-at_each g c modelled keeps s file known mid w later recorded lead none =
    let M = g.M.Placed in
    let (all, are, holds, kept) = kept_on M (g.met.M.Medium.replays) s file _ mid w later recorded lead modelled
    keeps in
    let (calls, calls_are, same, reads) = ok_holds_at_each s file known all later (M.state w.medium) kept are none in (
      calls,
      calls_are,
      holds ∙ ap (λ l. found_in file ++ l) same,
      λ k from to. reads k (omega (arith, from, lead_begins M later mid w lead)) to,
    )

pub returns-clause-at_end : goal.returns-clause-at_end
returns-clause-at_end g c modelled = ok_end g.M.Placed modelled
