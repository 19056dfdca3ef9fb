use Rattle.std.proofs.Common.{true, false, rules}
use Rattle.hound_writer.proofs.Answers.{not_ok}
use Rattle.hound_writer.proofs.Blocks.{consistent_cut, consistent_out, goes_out, goes_out_nothing}
use Rattle.hound_writer.proofs.output.Output.put_block.Goals as goal

pub returns-then-len-eq0 : goal.returns-then-len-eq0
returns-then-len-eq0 g c =
    let W = g.W.Placed in
    rw (← c.self.view_is)
    (goes_out_nothing W _ _ _ _ c.self.invariant (g.met.W.Medium.replays _) (search rules))

pub invariant_of-self : goal.invariant_of-self
invariant_of-self g c =
    let W = g.W.Placed in
    rw c.in_err-put_at_end.ensures.moved
    (consistent_cut W _ _ _ c.self.invariant (g.met.W.Medium.replays _) _
    (rw c.as_slice-bytes.ensures at c.in_err-put_at_end.ensures.puts))

pub returns-in_err-put_at_end : goal.returns-in_err-put_at_end
returns-in_err-put_at_end g c =
    let W = g.W.Placed in
    rw (not_ok _ c.from_residual.ensures.0, ← c.self.view_is)
    (goes_out W _ _ _ c.self.invariant (g.met.W.Medium.replays _) _ false
    (rw c.as_slice-bytes.ensures at c.in_err-put_at_end.ensures.puts))

pub invariant_of-self-2 : goal.invariant_of-self-2
invariant_of-self-2 g c =
    let W = g.W.Placed in
    rw (c.len-2.ensures.length, c.clear.ensures, c.in_ok-put_at_end.ensures.moved)
    (consistent_out W _ _ _ c.self.invariant (g.met.W.Medium.replays _) _ _
    (rw c.len-2.ensures.length at c.fast_path_limit_of-self-inside.ensures.room)
    (rw c.as_slice-bytes.ensures at c.in_ok-put_at_end.ensures.puts))

pub returns : goal.returns
returns g c =
    let W = g.W.Placed in
    rw (c.len-2.ensures.length, c.clear.ensures, ← c.self.view_is)
    (goes_out W _ _ _ c.self.invariant (g.met.W.Medium.replays _) _ true
    (rw c.as_slice-bytes.ensures at c.in_ok-put_at_end.ensures.puts))
