use Rattle.std.proofs.Common.{Err, IsTrue, inl, inr, refl, subst, sym}
use Rattle.std.proofs.lemmas.Result.{on_ok_weaker}
use Rattle.hound.specs.declared.session.Begin.TheVariants.{New}
use Rattle.hound.specs.Run.{RunsOn, RunsOnce}
use Rattle.hound.proofs.Running.{is_ok}
use Rattle.hound.proofs.WholeSessions.{leave, sessions_returned}
use Rattle.hound.proofs.runs.run_sessions.Goals as goal

pub returns-in-Err : goal.returns-in-Err
returns-in-Err g c =
    let W = g.M.Placed in
    let run = c.run_until_error-medium in
    let runs = subst (λ l. RunsOn W (New c.args.spec_ex) l c.args.medium
    (Err c.in-Err.error) run.result.0) (sym c.in-Some.ensures.cases.0)
    (inl (
      c.in-Err.error,
      refl,
      subst (λ r. RunsOnce W (New c.args.spec_ex) c.in-Some.first.now.now c.args.medium r run.result.0) c.in-Err.is
          run.ensures,
    )) in
    record {
      sessions = runs;
      returned = sessions_returned W c.args.spec_ex c.args.medium _
          (λ modelled m. g.met.M.Placed.bytes m modelled) c.requires c.args.sessions.now
          (Err c.in-Err.error) runs;
      canonical = λ _ _. tt;
      exact = λ _ _ _. tt;
      stops = λ modelled. (leave W c.args.spec_ex c.args.medium _ modelled
          (λ m. g.met.M.Placed.bytes m modelled) (c.requires modelled) c.args.sessions.now
          (Err c.in-Err.error) runs).stops;
    }

pub returns : goal.returns
returns g c =
    let W = g.M.Placed in
    let run = c.run_until_error-medium in
    let on = c.append_sessions in
    let ok = is_ok run.result.1 c.in_default-answer.not-Err in
    let runs = subst (λ l. RunsOn W (New c.args.spec_ex) l c.args.medium on.result.1 on.result.0)
    (sym c.in-Some.ensures.cases.0)
    (inr (
      run.result.0,
      subst (λ r. RunsOnce W (New c.args.spec_ex) c.in-Some.first.now.now c.args.medium r run.result.0) ok run.ensures,
      on.ensures,
    )) in
    let left = λ (modelled : IsTrue W.tells). leave W c.args.spec_ex c.args.medium on.result.0 modelled
    (λ m. g.met.M.Placed.bytes m modelled) (c.requires modelled) c.args.sessions.now on.result.1 runs in
    record {
      sessions = runs;
      returned = sessions_returned W c.args.spec_ex c.args.medium _
          (λ modelled m. g.met.M.Placed.bytes m modelled) c.requires c.args.sessions.now on.result.1 runs;
      canonical = λ modelled some. on_ok_weaker on.result.1 (λ both. both.0) ((left modelled).file some);
      exact = λ modelled some empty. on_ok_weaker on.result.1 (λ both. both.1 empty) ((left modelled).file some);
      stops = λ modelled. (left modelled).stops;
    }
