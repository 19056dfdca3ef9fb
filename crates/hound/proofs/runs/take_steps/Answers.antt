use Rattle.std.proofs.Common.{[], arith, refl, rules}
use Rattle.hound.proofs.Running.{marked_more}
use Rattle.hound.proofs.runs.take_steps.Goals as goal

pub loop-i-init : goal.loop-i-init
loop-i-init g c = record {
  size = search rules;
  within = omega arith;
  runs = ([], refl, refl, (c.args.writer.now.batch_memory, refl));
}

pub loop-i-preserved : goal.loop-i-preserved
loop-i-preserved g c =
    let i = c.loop-i.i in
    let loop = c.loop-i.invariant in
    let inside = c.loop-i-test.true in
    record {
      size = search rules;
      within = omega arith;
      runs = marked_more g.M.Placed c.args.steps.now
          c.loop-i.marks i _ c.take_step-answer.result c.is_marked.result c.args.writer.now
          c.loop-i.writer c.take_step-answer.new.writer
          inside (omega (arith, loop.size, c.requires, inside)) c.is_marked.ensures loop.runs
          c.take_step-answer.ensures;
    }
