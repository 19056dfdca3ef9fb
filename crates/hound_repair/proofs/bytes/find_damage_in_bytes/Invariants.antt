use Rattle.hound_repair.specs.Steps.{IsAtStage, IsSoundStage, looks_for_chunks, steps_left}
use Rattle.hound_repair.proofs.bytes.find_damage_in_bytes.Given as goal

abbrev pub invariant-parts : goal.invariant-parts
invariant-parts l = record {
  sound : IsSoundStage l.stage;
  at : IsAtStage (looks_for_chunks l.task) l.bytes l.stage;
}

abbrev pub decreases-parts : goal.decreases-parts
decreases-parts l = steps_left l.length l.stage
