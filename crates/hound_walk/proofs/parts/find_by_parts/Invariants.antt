use Rattle.hound_walk.specs.Walking.{IsSoundOption}
use Rattle.hound_walk.specs.Parts.{IsAt, parts_left}
use Rattle.hound_walk.proofs.parts.find_by_parts.Given as goal

abbrev pub invariant-parts : goal.invariant-parts
invariant-parts l = IsAt l.fn.file l.walk × IsSoundOption l.walk.found

abbrev pub decreases-parts : goal.decreases-parts
decreases-parts l = parts_left l.walk.part l.walk.taken
