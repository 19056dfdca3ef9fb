use Rattle.std.proofs.Common.{◌∙◌, ap, refl, subst, sym, take}
use Rattle.hound_writer.specs.Accepting.{Accepts, mark_of, i16_bytes, whole_containers}
use Rattle.hound_writer.specs.Batch.{batch_bytes, batch_writer}
use Rattle.hound_writer.specs.Calls.{made, marked}
use Rattle.hound_writer.specs.Writer.{WriterState}
use Rattle.hound_writer.proofs.Batches.{batch_accepted}
use Rattle.hound_writer.proofs.Recording.{recorded_write}
use Rattle.hound_writer.proofs.batch.SampleWriter16.flush.Goals as goal

pub returns-clause-accepts : goal.returns-clause-accepts
returns-clause-accepts g c =
    let W = g.W.Placed in
    let batch = c.args.self in
    let w = batch.parent.now in
    let items = g.B.BatchMemory.samples batch.memory in
    let write = c.write_samples-accepted in
    let same = c.deref.ensures.value ∙ c.into_vec-memory.ensures in
    subst (Accepts W (whole_containers w.spec_ex (batch_bytes batch)) write.result (batch_writer batch))
    ((λ j. record write.new.self { batch_memory = i16_bytes (sym c.into_vec-memory.ensures j) })
    ∙ ap (λ (w : WriterState _). record w { batch_memory = i16_bytes c.into_vec-memory.result.items })
    (sym c.parent.view_is ∙ sym (λ j. (c.parent-inside.view_is j).output)))
    (batch_accepted W write.result w write.new.self
    (take batch.written items) (i16_bytes items) batch.fits batch.bits batch.width
    (rw same at write.ensures.accepts))

pub returns-clause-recorded : goal.returns-clause-recorded
returns-clause-recorded g c s file known so_far =
    let W = g.W.Placed in
    let batch = c.args.self in
    recorded_write W made (λ x. whole_containers x (batch_bytes batch))
    c.write_samples-accepted.result s file known (batch_writer batch) _ (λ _. (refl, tt)) so_far
    (returns-clause-accepts g c)

pub returns-clause-marked : goal.returns-clause-marked
returns-clause-marked g c s file known so_far =
    let W = g.W.Placed in
    let batch = c.args.self in
    recorded_write W
    (λ asked. marked asked (mark_of c.write_samples-accepted.result))
    (λ x. whole_containers x (batch_bytes batch))
    c.write_samples-accepted.result s file known (batch_writer batch) _ (λ _. (refl, refl)) so_far
    (returns-clause-accepts g c)
