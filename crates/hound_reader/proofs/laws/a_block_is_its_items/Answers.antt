use Rattle.std.proofs.lemmas.Grind.{common_steps}
use Rattle.std.proofs.Common.{arith}
use Rattle.hound_reader.proofs.BlockLemmas.{items_of_bytes, known_bytes, same_samples}
use Rattle.hound_reader.proofs.laws.a_block_is_its_items.Goals as goal

pub returns-clause-items : goal.returns-clause-items
returns-clause-items g c = items_of_bytes g.R.Read.remaining g.S.Sample.rejection g.S.Sample.meaning

pub returns-clause-same : goal.returns-clause-same
returns-clause-same g c samples others old block new known size first second =
    grind (arith, common_steps, known_bytes, same_samples, items_of_bytes)
