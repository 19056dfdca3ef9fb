use Rattle.std.proofs.lemmas.Result.{err_from_is_err_and}
use Rattle.std.proofs.Common.{ap, Ok, Err, refl, sym, subst, ◌∙◌}
use Rattle.hound_repair.specs.Steps.{PerformedOn, effects_of_task}
use Rattle.hound_repair.proofs.Performing.{nth_next}
use Rattle.hound_repair.proofs.mend.perform_all.Goals as goal

pub loop-effect-preserved : goal.loop-effect-preserved
loop-effect-preserved g c = record {
  leads = λ modelled end result rest. c.loop-effect.invariant.leads modelled end result
      (subst (λ l. PerformedOn g.M.Placed.keeps l result (g.M.Placed.state c.loop-effect.medium) end)
      (sym (nth_next (effects_of_task c.args.task c.args.damage) c.loop-effect.number c.in-Some.effect
      (sym c.effect.ensures.is ∙ c.in-Some.is)))
      (g.M.Placed.state c.perform.new.medium, Ok c.in_ok-perform.field-0, c.in_ok-perform.ensures modelled, rest));
}

pub returns-in_err-perform : goal.returns-in_err-perform
returns-in_err-perform g c = λ modelled. let p = err_from_is_err_and c.from_residual.result c.from_residual.ensures.1 in
    let e = c.in_err-perform.field-0.0 in
    c.loop-effect.invariant.leads modelled _ _
    (subst (λ l. PerformedOn g.M.Placed.keeps l c.from_residual.result (g.M.Placed.state c.loop-effect.medium)
    (g.M.Placed.state c.perform.new.medium))
    (sym (nth_next (effects_of_task c.args.task c.args.damage) c.loop-effect.number c.in-Some.effect
    (sym c.effect.ensures.is ∙ c.in-Some.is)))
    (g.M.Placed.state c.perform.new.medium, Err e, c.in_err-perform.ensures modelled, (p.1 ∙ ap Err p.2, refl)))
