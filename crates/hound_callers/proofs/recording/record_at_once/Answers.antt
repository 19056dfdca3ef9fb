use Rattle.std.proofs.Common.{◌∙◌, Result, Ok, Err, OnOk, inr}
use Rattle.hound_callers.proofs.recording.record_at_once.Goals as goal

-- what holds whatever the result is
always : {T E P : Type 0} (r : Result T E) → P → OnOk r P
always (Ok x) here = here
always (Err e) here = tt

pub returns-clause-same : goal.returns-clause-same
returns-clause-same g c modelled whole =
    let accepts = c.in_ok-write_samples.ensures.accepts in
    always c.flush.result (λ each went.
    c.flush.ensures.checkpoints.accepted modelled ((accepts.file modelled).whole whole)
    ∙ (c.a_block_is_its_samples.ensures modelled c.args.samples.now c.args.writer.now
    c.write_samples.new.self each whole accepts went).0)

pub returns-clause-calls : goal.returns-clause-calls
returns-clause-calls g c = inr (
  c.write_samples.new.self,
  c.in_ok-write_samples.ensures.accepts,
  c.flush.ensures.checkpoints,
)
