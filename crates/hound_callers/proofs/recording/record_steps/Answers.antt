use Rattle.std.proofs.Common.{◌≡◌, ◌∙◌, Result, Ok, Err, inl, inr, subst, sym}
use Rattle.hound.specs.{Error, Ran, new_file}
use Rattle.hound.specs.declared.session.Begin.TheVariants.{New}
use Rattle.hound.specs.declared.session.End.TheVariants.{Drop}
use Rattle.hound_callers.proofs.recording.record_steps.Goals as goal

pub returns-in_default-Ok : goal.returns-in_default-Ok
returns-in_default-Ok g c = elim c.run_session.ensures.session [
  | inl none ↦ let both : Ok tt ≡ Err none.0 = sym c.in_default-Ok.is-1 ∙ none.1 in cc
  | inr ran ↦ record {
    run = subst (λ (r : Result (Unit {0}) Error). Ran g.M.Placed (New c.args.spec_ex) c.args.steps.now
        c.run_session.new.marks Drop
        c.args.medium r c.run_session.result.0) c.in_default-Ok.is-1 ran;
    kept = λ modelled keeps. c.what_is_kept.ensures.kept modelled keeps c.args.spec_ex
        (new_file (g.M.Placed.state c.args.medium)) _ _
        (c.a_run_leaves_its_calls.ensures c.args.spec_ex _ _ _ _ _ ran);
  }
]
