use Rattle.std.proofs.lemmas.Grind.{common_steps}
use Rattle.std.proofs.Common.{◌∙◌, Ok, Err, sym, arith}
use Rattle.std.proofs.lemmas.Bool.{false≢true}
use Rattle.hound_spec.specs.declared.error.Error.TheVariants.{IoError}
use Rattle.hound_writer.proofs.AcceptingMany.{many_asked, many_too_long, too_many}
use Rattle.hound_writer.proofs.output.Output.accept_samples_slowly.Goals as goal

pub returns-then-samples : goal.returns-then-samples
returns-then-samples g c =
    let W = g.W.Placed in
    rw (← c.self.view_is)
    (too_many g.S.Sample.container g.met.S.Sample.in_width c.args.samples.now W _ _ _ c.self.invariant
    (g.met.W.Medium.replays _)
    (rw (← c.self.view_is) at c.requires.have) c.if-samples.true)

pub returns-then-not-has_room : goal.returns-then-not-has_room
returns-then-not-has_room g c =
    let W = g.W.Placed in
    let fits = rw (← c.self.view_is) at c.has_room.ensures.room in
    rw (← c.self.view_is)
    (many_too_long g.S.Sample.container g.met.S.Sample.in_width c.args.samples.now W _ _ _ c.self.invariant
    (g.met.W.Medium.replays _)
    (rw (← c.self.view_is) at c.requires.have)
    (λ room. false≢true (sym c.if-not-has_room.true ∙ fits.1 room)))

pub returns-in-Err : goal.returns-in-Err
returns-in-Err g c =
    let W = g.W.Placed in
    rw (← c.self.view_is)
    (many_asked g.S.Sample.container g.met.S.Sample.in_width c.args.samples.now W _ _ _ c.self.invariant
    (Err (IoError c.in-Err.error)) _
    (rw (← c.self.view_is) at c.requires.have)
    (rw (← c.self.view_is) at c.in-Err.ensures))

pub returns-in-Ok : goal.returns-in-Ok
returns-in-Ok g c =
    let W = g.W.Placed in
    rw (← c.self.view_is)
    (many_asked g.S.Sample.container g.met.S.Sample.in_width c.args.samples.now W _ _ _ c.self.invariant (Ok tt) _
    (rw (← c.self.view_is) at c.requires.have)
    (rw (← c.self.view_is) at c.in-Ok.ensures))

pub has_room-requires : goal.has_room-requires
has_room-requires g c = grind (arith, common_steps)
