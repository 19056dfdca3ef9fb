use Rattle.std.proofs.lemmas.Grind.{common_steps}
use Rattle.std.proofs.Common.{arith}
use Rattle.hound_sample.proofs.Stores.{four_stored}
use Rattle.hound_sample.proofs.slices.store_container.Goals as goal

pub returns-clause-stored : goal.returns-clause-stored
returns-clause-stored c = grind (arith, common_steps, four_stored)
