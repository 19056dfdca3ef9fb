use Rattle.hound_durable.specs.Losses.{own}
use Rattle.hound_durable.proofs.Reading.{get_consumes_left}
use Rattle.hound_durable.proofs.durable.DurableRead.read.Goals as goal

pub returns-clause-bytes : goal.returns-clause-bytes
returns-clause-bytes g c =
    let state = g.M.Placed.state in
    let old = c.args.self.now in
    let new = c.get.new.self in
    get_consumes_left g.M.Placed.tells c.get.new.buf c.get.result
    (own g.M.Placed.keeps (state old.inner) old.faults old.flushed)
    (own g.M.Placed.keeps (state new.inner) new.faults new.flushed) c.get.ensures.gets
