use Rattle.std.proofs.Common.{arith, ◌∙◌, length-drop}
use Rattle.std.proofs.lemmas.List.{take_rest}
use Rattle.hound_medium.proofs.Taking.{takes_more}
use Rattle.hound_medium.proofs.medium.put_all.Goals as goal

pub loop-at-preserved : goal.loop-at-preserved
loop-at-preserved g c = record {
  within =
      omega (
        arith,
        rw take_rest at c.in-Ok.ensures.bound.1,
        length-drop c.loop-at.at c.args.bytes.now,
      );
  takes = λ t. let put = c.in-Ok.ensures.puts t in
      takes_more _ _ _ _ _ _ _ c.loop-at.invariant.within (c.loop-at.invariant.takes t)
      (rw take_rest at put.takes);
  faults = λ t. let put = c.in-Ok.ensures.puts t in put.faults ∙ c.loop-at.invariant.faults t;
}
