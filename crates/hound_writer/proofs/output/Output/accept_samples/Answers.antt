use Rattle.std.proofs.Common.{◌∙◌, Ok, sym}
use Rattle.std.proofs.lemmas.Bool.{false≢true}
use Rattle.hound_writer.proofs.AcceptingMany.{many_asked, many_rejected}
use Rattle.hound_writer.proofs.output.Output.accept_samples.Goals as goal

pub returns-then-not-have_containers : goal.returns-then-not-have_containers
returns-then-not-have_containers g c =
    let W = g.W.Placed in
    rw (← c.self.view_is)
    (many_rejected g.S.Sample.container g.met.S.Sample.in_width c.args.samples.now W _ _ _ c.self.invariant
    (g.met.W.Medium.replays _) _ c.args.fault.now c.check_containers.ensures
    (λ have. false≢true (sym c.if-not-have_containers.true ∙ c.have_containers.ensures ∙ have)))

pub returns-then-len-samples : goal.returns-then-len-samples
returns-then-len-samples g c =
    let W = g.W.Placed in
    rw (← c.self.view_is)
    (many_asked g.S.Sample.container g.met.S.Sample.in_width c.args.samples.now W _ _ _ c.self.invariant (Ok tt) _
    (sym c.have_containers.ensures ∙ c.if-not-have_containers.false)
    (rw (← c.self.view_is) at c.accept_samples_in_block.ensures))
