use Rattle.std.proofs.Common.{arith, inl, inr, refl}
use Rattle.hound.specs.Run.{RunsUntil}
use Rattle.hound.proofs.Running.{leads_on}
use Rattle.hound.proofs.runs.take_until_error.Goals as goal

pub returns-in-Err : goal.returns-in-Err
returns-in-Err g c dropped medium ends =
    let W = g.M.Placed in
    let take = c.take_step in
    leads_on (RunsUntil W) c.args.steps.now c.loop-i.i c.args.writer.now
    c.loop-i.writer c.loop-i.invariant.leads _ c.loop-i-test.true _ medium
    (inl (
      c.in-Err.error,
      take.new.writer,
      dropped,
      refl,
      rw c.in-Err.is at take.ensures,
      ends,
    ))

pub loop-i-preserved : goal.loop-i-preserved
loop-i-preserved g c =
    let W = g.M.Placed in
    let take = c.take_step in
    record {
      within = omega arith;
      leads = λ answer medium runs. leads_on (RunsUntil W) c.args.steps.now c.loop-i.i
          c.args.writer.now c.loop-i.writer c.loop-i.invariant.leads _ c.loop-i-test.true answer
          medium (inr (take.new.writer, rw c.in-Ok.is at take.ensures, runs));
    }
