use Rattle.std.proofs.lemmas.Grind.{common_steps}
use Rattle.std.proofs.Common.{◌∙◌, ap, arith, take}
use Rattle.hound_reader.proofs.GettingLemmas.{front_of_source, get_passes, passes_more, unread_after}
use Rattle.hound_reader.proofs.blocks.get_all.Goals as goal

pub loop-at-preserved : goal.loop-at-preserved
loop-at-preserved g c = record {
  within = grind (arith, common_steps);
  passes = λ t. let gets = c.in-Ok.ensures.gets t in
      passes_more _ _ _ _ _ (c.loop-at.invariant.passes t) (get_passes _ _ _ _ gets);
  bytes = λ t. let gets = c.in-Ok.ensures.gets t in
      front_of_source _ _ _ c.loop-at.buf c.get.new.buf _ c.loop-at.invariant.within c.in-Ok.ensures.bound
      (c.loop-at.invariant.bytes t)
      (gets.bytes ∙ ap (take c.in-Ok.count) (unread_after _ _ _ (c.loop-at.invariant.passes t)));
  faults = λ t. let gets = c.in-Ok.ensures.gets t in gets.faults ∙ c.loop-at.invariant.faults t;
}
