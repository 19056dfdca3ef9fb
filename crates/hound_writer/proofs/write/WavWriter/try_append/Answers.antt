use Rattle.std.proofs.lemmas.Grind.{common_steps}
use Rattle.std.proofs.Common.{arith}
use Rattle.hound_writer.proofs.Appending.{answer_after, walk_fails}
use Rattle.hound_writer.proofs.Recording.{recorded_appended}
use Rattle.hound_writer.proofs.write.WavWriter.try_append.Goals as goal

pub returns-in-Ok-clause-appends : goal.returns-in-Ok-clause-appends
returns-in-Ok-clause-appends g c =
    let old = g.W.Placed.state c.args.writer in
    let mid = g.W.Placed.state c.find_data-writer.result.0 in
    answer_after g.W.Placed c.in-Ok.head old mid _
    (rw c.in-Ok.is at c.find_data-writer.ensures.finds) c.append_at.ensures.appends

pub returns-in-Ok-clause-recorded : goal.returns-in-Ok-clause-recorded
returns-in-Ok-clause-recorded g c =
    let W = g.W.Placed in
    recorded_appended W _ (W.state c.args.writer) c.append_at.result
    (returns-in-Ok-clause-appends g c)

pub returns-in-Err-clause-appends : goal.returns-in-Err-clause-appends
returns-in-Err-clause-appends g c tells = grind (arith, common_steps, walk_fails)
