use Rattle.std.proofs.Common.{refl, rules}
use Rattle.hound_writer.specs.Accepting.{mark_of}
use Rattle.hound_writer.specs.Calls.{returned, made, marked, publish}
use Rattle.hound_writer.proofs.Recording.{recorded_flush}
use Rattle.hound_writer.proofs.write.WavWriter.flush.Goals as goal

pub returns-clause-recorded : goal.returns-clause-recorded
returns-clause-recorded g c s file known so_far =
    let W = g.W.Placed in
    recorded_flush W (made publish) c.publish_all.result s file known
    _ _ (refl, tt) so_far (search rules)

pub returns-clause-marked : goal.returns-clause-marked
returns-clause-marked g c s file known so_far =
    let W = g.W.Placed in
    recorded_flush W (marked publish (mark_of c.publish_all.result))
    c.publish_all.result s file known _ _ (refl, refl) so_far (search rules)

pub returns-clause-returned : goal.returns-clause-returned
returns-clause-returned g c s file known so_far =
    let W = g.W.Placed in
    recorded_flush W (returned publish c.publish_all.result)
    c.publish_all.result s file known _ _ (refl, refl) so_far (search rules)
