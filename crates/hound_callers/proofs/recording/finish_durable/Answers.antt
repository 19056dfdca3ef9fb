use Rattle.std.proofs.Common.{length, refl, subst, sym}
use Rattle.hound.specs.{Ascends, MediumState}
use Rattle.hound_callers.proofs.recording.finish_durable.Goals as goal

pub returns-clause-finishes : goal.returns-clause-finishes
returns-clause-finishes g c = (
  c.args.writer.medium,
  c.finalize_into-durable.result.0,
  refl,
  sym c.into_inner.ensures,
  c.finalize_into-durable.ensures.finishes,
)

pub returns-clause-ascends : goal.returns-clause-ascends
returns-clause-ascends g c modelled keeps =
    subst (λ (s : MediumState). Ascends s.past s.flushed (length s.past)) (sym c.into_inner.ensures)
    (c.a_durable_medium_ascends.ensures.ascends modelled keeps)
