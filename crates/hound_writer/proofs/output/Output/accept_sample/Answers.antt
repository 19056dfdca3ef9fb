use Rattle.std.proofs.Common.{Ok, arith, take}
use Rattle.hound_sample.proofs.Joined.{encoded_bytes}
use Rattle.hound_writer.proofs.Blocks.{accepts_buffered}
use Rattle.hound_writer.proofs.Containers.{one_whole}
use Rattle.hound_writer.proofs.Writing.{sample_rejected, sample_accepts}
use Rattle.hound_writer.proofs.output.Output.accept_sample.Goals as goal

pub returns-in-Err : goal.returns-in-Err
returns-in-Err g c =
    rw (← c.self.view_is, c.reason_of.ensures)
    (sample_rejected g.W.Placed _ _ _ c.self.invariant _ c.in-Err.rejection c.args.fault.now c.in-Err.ensures
    (g.met.W.Medium.replays _))

pub returns-then-len-self : goal.returns-then-len-self
returns-then-len-self g c =
    let W = g.W.Placed in
    let s = c.self.inside.spec_ex in
    let known = c.self.invariant in
    let sized = g.met.S.Sample.in_width c.args.sample s.spec.bits_per_sample s.bytes_per_sample in
    let is = encoded_bytes _ _ s.bytes_per_sample (λ b e. (sized b e).0) c.in-Ok.ensures in
    let width = sized _ is in
    rw (c.push.ensures, ← c.self.view_is)
    (sample_accepts W _ _ _ known _ _ (Ok tt) _ is width.0
    (accepts_buffered W _ _ _ known (take s.bytes_per_sample c.in-Ok.container) (omega (
      arith,
      width,
      c.len.ensures.length,
      c.if-len-self.true,
      known.room.block,
      known.room.file (omega (arith, c.if-len-self.true)),
    ))
    (one_whole _ _ width.0) (g.met.W.Medium.replays _)))

pub returns-else-len-self : goal.returns-else-len-self
returns-else-len-self g c =
    let W = g.W.Placed in
    let s = c.self.inside.spec_ex in
    let sized = g.met.S.Sample.in_width c.args.sample s.spec.bits_per_sample s.bytes_per_sample in
    let is = encoded_bytes _ _ s.bytes_per_sample (λ b e. (sized b e).0) c.in-Ok.ensures in
    rw (← c.self.view_is)
    (sample_accepts W _ _ _ c.self.invariant _ _ _ _ is (sized _ is).0
    (rw (← c.self.view_is) at c.accept_slowly.ensures))
