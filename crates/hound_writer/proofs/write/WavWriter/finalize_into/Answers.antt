use Rattle.std.proofs.lemmas.Grind.{common_steps}
use Rattle.std.proofs.Common.{arith}
use Rattle.std.proofs.Common.{refl}
use Rattle.hound_writer.specs.Accepting.{mark_of}
use Rattle.hound_writer.specs.Calls.{returned, made, marked, publish}
use Rattle.hound_writer.proofs.PublishLater.{finishes_of}
use Rattle.hound_writer.proofs.Recording.{left_by}
use Rattle.hound_writer.proofs.write.WavWriter.finalize_into.Goals as goal

pub returns-clause-finishes : goal.returns-clause-finishes
returns-clause-finishes g c = grind (arith, common_steps, finishes_of)

pub returns-clause-left : goal.returns-clause-left
returns-clause-left g c s file known so_far =
    let W = g.W.Placed in
    left_by W (made publish) c.publish_all-result.result s file known c.args.self
    c.into_medium.result (refl, tt) (returns-clause-finishes g c) so_far

pub returns-clause-marked : goal.returns-clause-marked
returns-clause-marked g c s file known so_far =
    let W = g.W.Placed in
    left_by W (marked publish (mark_of c.publish_all-result.result))
    c.publish_all-result.result s file known c.args.self c.into_medium.result (refl, refl)
    (returns-clause-finishes g c) so_far

pub returns-clause-returned : goal.returns-clause-returned
returns-clause-returned g c s file known so_far =
    let W = g.W.Placed in
    left_by W (returned publish c.publish_all-result.result)
    c.publish_all-result.result s file known c.args.self c.into_medium.result (refl, refl)
    (returns-clause-finishes g c) so_far
