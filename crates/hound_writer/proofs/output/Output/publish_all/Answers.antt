use Rattle.std.proofs.Common.{ap, arith}
use Rattle.hound_writer.specs.Publishing.{place_after}
use Rattle.hound_writer.specs.Writer.{data_end, padded_end}
use Rattle.hound_writer.proofs.Answers.{is_error}
use Rattle.hound_writer.proofs.PatchMoments.{publishes_to}
use Rattle.hound_writer.proofs.PublishLater.{published_cut, published_later}
use Rattle.hound_writer.proofs.output.Output.publish_all.Goals as goal

pub returns-in_err-put_block : goal.returns-in_err-put_block
returns-in_err-put_block g c =
    let W = g.W.Placed in
    let first = c.args.self.now in
    rw (is_error _ _ c.from_residual.ensures.1)
    (published_cut W (data_end first) _ first c.put_block.new.self _
    (omega arith) c.in_err-put_block.ensures (g.met.W.Placed.bytes first.medium))

pub returns-in_err-put_pad : goal.returns-in_err-put_pad
returns-in_err-put_pad g c =
    let W = g.W.Placed in
    let first = c.args.self.now in
    let mid = c.put_block.new.self in
    rw (is_error _ _ c.from_residual-in_err-put_pad.ensures.1)
    (published_later W (data_end first) _ first mid c.put_pad.new.self _
    (omega arith) c.in_ok-put_block.ensures (g.met.W.Placed.bytes first.medium)
    (published_cut W (padded_end mid) _ mid c.put_pad.new.self _
    (omega arith) c.in_err-put_pad.ensures.goes (g.met.W.Placed.bytes mid.medium)))

pub returns : goal.returns
returns g c =
    let W = g.W.Placed in
    let first = c.args.self.now in
    let out = c.in_ok-put_block.ensures in
    let mid = c.put_block.new.self in
    let pad = c.in_ok-put_pad.ensures in
    let padded = c.put_pad.new.self in
    let none = ap (λ w. w.buffered) pad.goes.value in
    let publish = c.publish-published in
    let e = publish.ensures in
    let at = place_after c.args.continues publish.new.self in
    published_later W
    (data_end first) at first mid publish.new.self c.publish_result.result (omega arith) out
    (g.met.W.Placed.bytes first.medium)
    (published_later W (padded_end mid) at mid padded publish.new.self c.publish_result.result (omega arith) pad.goes
    (g.met.W.Placed.bytes mid.medium)
    (publishes_to W padded publish.new.self.medium none e.sound e.at_most (λ modelled.
    pad.padded modelled) publish.result c.are_frames.result c.publish_result.result c.publish_result.ensures
    publish.new.self e.stays c.are_frames.ensures (g.met.W.Placed.bytes padded.medium)
    (g.met.W.Placed.bytes publish.new.self.medium) e.patches e.moments at e.place))
