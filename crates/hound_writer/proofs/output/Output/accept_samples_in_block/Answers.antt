use Rattle.std.proofs.Common.{arith}
use Rattle.hound_writer.specs.Accepting.{sample_bytes}
use Rattle.hound_writer.proofs.AcceptingMany.{fit}
use Rattle.hound_writer.proofs.Blocks.{accepts_buffered, consistent_longer}
use Rattle.hound_writer.proofs.output.Output.accept_samples_in_block.Goals as goal

pub invariant_of-self : goal.invariant_of-self
invariant_of-self g c =
    let W = g.W.Placed in
    let i = c.self.inside in
    let values = c.args.samples.now in
    let fits = rw (← c.self.view_is) at (fit g.S.Sample.container g.met.S.Sample.in_width values
    c.args.self.now c.requires.have c.requires.room) in
    let few = rw (← c.self.view_is) at c.requires.few in
    rw c.extend_by.ensures
    (consistent_longer W _ _ _ c.self.invariant
    (sample_bytes g.S.Sample.container i.spec_ex values) fits.room fits.whole
    (omega (arith, few, fits.size)))

pub returns : goal.returns
returns g c =
    let W = g.W.Placed in
    let i = c.self.inside in
    let values = c.args.samples.now in
    let fits = rw (← c.self.view_is) at (fit g.S.Sample.container g.met.S.Sample.in_width values
    c.args.self.now c.requires.have c.requires.room) in
    rw (c.extend_by.ensures, ← c.self.view_is)
    (accepts_buffered W _ _ _ c.self.invariant (sample_bytes g.S.Sample.container i.spec_ex values) fits.room fits.whole
    (g.met.W.Medium.replays i.writer))
