use Rattle.std.proofs.Common.{arith, inl, inr, refl}
use Rattle.hound.specs.declared.session.Begin.TheVariants.{Append}
use Rattle.hound.specs.Run.{RunsOn}
use Rattle.hound.proofs.Running.{is_ok, leads_on}
use Rattle.hound.proofs.runs.append_sessions.Goals as goal

pub returns-in-Err : goal.returns-in-Err
returns-in-Err g c =
    let W = g.M.Placed in
    leads_on (RunsOn W Append) c.args.sessions.now c.loop-i.i c.args.medium
    c.loop-i.medium c.loop-i.invariant.leads _ c.loop-i-test.true _ _
    (inl (c.in-Err.error, refl, rw c.in-Err.is at c.append_session-back.ensures))

pub loop-i-preserved : goal.loop-i-preserved
loop-i-preserved g c =
    let W = g.M.Placed in
    let again = c.append_session-back in
    let ok = is_ok again.result.1 c.in_default.not-Err in
    record {
      within = omega arith;
      leads = λ answer medium others. leads_on (RunsOn W Append) c.args.sessions.now c.loop-i.i
          c.args.medium c.loop-i.medium c.loop-i.invariant.leads _ c.loop-i-test.true answer medium
          (inr (again.result.0, rw ok at again.ensures, others));
    }
