use Rattle.std.proofs.lemmas.Grind.{common_steps}
use Rattle.std.proofs.Common.{arith}
use Rattle.std.proofs.Common.{inl, sym, subst}
use Rattle.hound_repair.specs.Steps.{looks_for_chunks}
use Rattle.hound_repair.specs.Repairing.{Repairs}
use Rattle.hound_repair.proofs.ByEffects.{as_mended, done_by, lost_by, moments_by, not_by, stopped_by}
use Rattle.hound_repair.proofs.Lost.{kept_loss}
use Rattle.hound_repair.proofs.mend.repair_by_effects.Goals as goal

pub returns-in-Err-clause-repaired : goal.returns-in-Err-clause-repaired
returns-in-Err-clause-repaired g c modelled =
    not_by (looks_for_chunks c.args.task) c.in-Err.error _ _ (c.in-Err.ensures.finds modelled)

pub returns-in-Ok-perform_all-clause-repaired : goal.returns-in-Ok-perform_all-clause-repaired
returns-in-Ok-perform_all-clause-repaired g c modelled =
    let state = g.M.Placed.state in
    subst (λ r. Repairs (looks_for_chunks c.args.task) (state c.args.medium) r (state c.perform_all.new.medium))
    (sym c.repair.ensures)
    (done_by (looks_for_chunks c.args.task) g.M.Placed.keeps _ _ _ c.in-Ok.damage c.in-Ok.ensures.sound
    (c.in-Ok.ensures.finds modelled)
    (g.met.M.Placed.bytes c.look_by_parts.new.source modelled)
    (as_mended _ c.in-Ok.damage c.args.task _ _ _ c.requires (c.in-Ok-perform_all.ensures modelled)))

pub returns-in-Err-perform_all-clause-repaired : goal.returns-in-Err-perform_all-clause-repaired
returns-in-Err-perform_all-clause-repaired g c modelled =
    stopped_by (looks_for_chunks c.args.task) g.M.Placed.keeps _ _ _ c.in-Ok.damage c.in-Ok.ensures.sound
    (c.in-Ok.ensures.finds modelled)
    (g.met.M.Placed.bytes c.look_by_parts.new.source modelled) c.in-Err-perform_all.error
    (as_mended _ c.in-Ok.damage c.args.task _ _ _ c.requires (c.in-Err-perform_all.ensures modelled))

pub returns-in-Err-clause-moments : goal.returns-in-Err-clause-moments
returns-in-Err-clause-moments g c modelled kept =
    inl (c.in-Err.ensures.finds modelled).puts.stays.past

pub returns-in-Ok-perform_all-clause-moments : goal.returns-in-Ok-perform_all-clause-moments
returns-in-Ok-perform_all-clause-moments g c modelled kept =
    moments_by (looks_for_chunks c.args.task) g.M.Placed.keeps _ _ _ c.in-Ok.damage c.in-Ok.ensures.sound
    (c.in-Ok.ensures.finds modelled)
    (g.met.M.Placed.bytes c.look_by_parts.new.source modelled) _ kept
    (g.met.M.Medium.replays c.look_by_parts.new.source modelled kept)
    (as_mended _ c.in-Ok.damage c.args.task _ _ _ c.requires (c.in-Ok-perform_all.ensures modelled))

pub returns-in-Err-perform_all-clause-moments : goal.returns-in-Err-perform_all-clause-moments
returns-in-Err-perform_all-clause-moments g c modelled kept =
    moments_by (looks_for_chunks c.args.task) g.M.Placed.keeps _ _ _ c.in-Ok.damage c.in-Ok.ensures.sound
    (c.in-Ok.ensures.finds modelled)
    (g.met.M.Placed.bytes c.look_by_parts.new.source modelled) _ kept
    (g.met.M.Medium.replays c.look_by_parts.new.source modelled kept)
    (as_mended _ c.in-Ok.damage c.args.task _ _ _ c.requires (c.in-Err-perform_all.ensures modelled))

pub returns-in-Err-clause-performed : goal.returns-in-Err-clause-performed
returns-in-Err-clause-performed g c modelled = inl (c.in-Err.ensures.finds modelled).puts

pub returns-in-Ok-perform_all-clause-performed : goal.returns-in-Ok-perform_all-clause-performed
returns-in-Ok-perform_all-clause-performed g c modelled = (
  c.in-Ok.damage,
  g.M.Placed.state c.look_by_parts.new.source,
  c.in-Ok.ensures.sound,
  c.in-Ok.ensures.finds modelled,
  as_mended _ c.in-Ok.damage c.args.task _ _ _ c.requires (c.in-Ok-perform_all.ensures modelled),
  c.repair.ensures,
)

pub returns-in-Err-perform_all-clause-performed : goal.returns-in-Err-perform_all-clause-performed
returns-in-Err-perform_all-clause-performed g c modelled = grind (arith, common_steps, as_mended)

pub returns-in-Err-clause-lost : goal.returns-in-Err-clause-lost
returns-in-Err-clause-lost g c modelled kept = λ sector left settled wide lost.
    inl (kept_loss sector left _ _ (c.in-Err.ensures.finds modelled).puts
    (g.met.M.Medium.replays c.args.medium modelled kept) settled lost)

pub returns-in-Ok-perform_all-clause-lost : goal.returns-in-Ok-perform_all-clause-lost
returns-in-Ok-perform_all-clause-lost g c modelled kept =
    lost_by (looks_for_chunks c.args.task) g.M.Placed.keeps _ _ _ c.in-Ok.damage c.in-Ok.ensures.sound
    (c.in-Ok.ensures.finds modelled)
    (g.met.M.Placed.bytes c.look_by_parts.new.source modelled) _ kept
    (g.met.M.Medium.replays c.look_by_parts.new.source modelled kept)
    (as_mended _ c.in-Ok.damage c.args.task _ _ _ c.requires (c.in-Ok-perform_all.ensures modelled))

pub returns-in-Err-perform_all-clause-lost : goal.returns-in-Err-perform_all-clause-lost
returns-in-Err-perform_all-clause-lost g c modelled kept =
    lost_by (looks_for_chunks c.args.task) g.M.Placed.keeps _ _ _ c.in-Ok.damage c.in-Ok.ensures.sound
    (c.in-Ok.ensures.finds modelled)
    (g.met.M.Placed.bytes c.look_by_parts.new.source modelled) _ kept
    (g.met.M.Medium.replays c.look_by_parts.new.source modelled kept)
    (as_mended _ c.in-Ok.damage c.args.task _ _ _ c.requires (c.in-Err-perform_all.ensures modelled))
