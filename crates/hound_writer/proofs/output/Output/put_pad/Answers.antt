use Rattle.std.proofs.Common.{is_ok, rules}
use Rattle.hound_writer.proofs.Answers.{where_done}
use Rattle.hound_writer.proofs.Blocks.{cut_at_once, goes_out_nothing}
use Rattle.hound_writer.proofs.Padding.{goes_out, padded_odd}
use Rattle.hound_writer.proofs.output.Output.put_pad.Goals as goal

pub returns-then-self-eq0-clause-goes : goal.returns-then-self-eq0-clause-goes
returns-then-self-eq0-clause-goes g c =
    let W = g.W.Placed in
    rw (← c.self.view_is)
    (goes_out_nothing W _ _ _ _ c.self.invariant (g.met.W.Medium.replays c.self.inside.writer) (search rules))

pub invariant_of-self : goal.invariant_of-self
invariant_of-self g c =
    let W = g.W.Placed in
    cut_at_once W _ _ _ c.self.invariant
    (search rules) c.put_at_end-result.new.medium _ (is_ok c.put_at_end-result.result)
    c.put_at_end-result.ensures.puts

pub returns-clause-goes : goal.returns-clause-goes
returns-clause-goes g c =
    let W = g.W.Placed in
    let put = c.put_at_end-result in
    rw (← c.self.view_is)
    (goes_out W _ _ _ c.self.invariant (search rules)
    (g.met.W.Medium.replays _) c.if-self-eq0.false put.new.medium (is_ok put.result) put.ensures.puts)

pub returns-clause-padded : goal.returns-clause-padded
returns-clause-padded g c modelled =
    let W = g.W.Placed in
    let put = c.put_at_end-result in
    where_done put.result (padded_odd W _ _ _ c.self.invariant (search rules)
    (g.met.W.Medium.replays _) c.if-self-eq0.false put.new.medium (is_ok put.result) put.ensures.puts modelled)
