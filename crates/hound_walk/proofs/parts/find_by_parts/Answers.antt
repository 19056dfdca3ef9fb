use Rattle.std.proofs.lemmas.Grind.{common_steps}
use Rattle.std.proofs.Common.{arith}
use Rattle.hound_walk.proofs.TakenLemmas.{head_is_there}
use Rattle.hound_walk.proofs.parts.find_by_parts.Goals as goal

pub returns-in-Data-clause-inside : goal.returns-in-Data-clause-inside
returns-in-Data-clause-inside c = grind (arith, common_steps, head_is_there)
