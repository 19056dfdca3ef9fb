use Rattle.std.proofs.Common.{rules}
use Rattle.hound_writer.proofs.Blocks.{accepts_buffered}
use Rattle.hound_writer.proofs.output.Output.accept_in_block.Goals as goal

pub returns : goal.returns
returns g c =
    let W = g.W.Placed in
    rw (c.extend.ensures, ← c.self.view_is)
    (accepts_buffered W _ _ _ c.self.invariant c.args.bytes.now (search rules)
    (search rules) (g.met.W.Medium.replays _))
