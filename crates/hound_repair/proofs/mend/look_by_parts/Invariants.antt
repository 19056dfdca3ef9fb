use Rattle.hound_medium.specs.{WhereTells}
use Rattle.hound_repair.specs.Repairing.{IsSame}
use Rattle.hound_repair.specs.Steps.{IsAtStage, IsLengthOf, IsSoundStage, looks_for_chunks, steps_left}
use Rattle.hound_repair.proofs.mend.look_by_parts.Given as goal

abbrev pub invariant-parts : goal.invariant-parts
invariant-parts g l = record {
  sound : IsSoundStage l.stage;
  size : WhereTells g.S.Placed.tells (IsLengthOf l.length (g.S.Placed.state l.fn.source).contents);
  same : WhereTells g.S.Placed.tells (IsSame (g.S.Placed.state l.fn.source) (g.S.Placed.state l.source));
  at : WhereTells g.S.Placed.tells
      (IsAtStage (looks_for_chunks l.task) (g.S.Placed.state l.fn.source).contents l.stage);
}

abbrev pub decreases-parts : goal.decreases-parts
decreases-parts g l = steps_left l.length l.stage
