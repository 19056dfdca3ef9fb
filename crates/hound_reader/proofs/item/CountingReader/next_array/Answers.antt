use Rattle.std.proofs.lemmas.Grind.{common_steps}
use Rattle.std.proofs.Common.{arith}
use Rattle.hound_reader.proofs.CountingLemmas.{given_read}
use Rattle.hound_reader.proofs.item.CountingReader.next_array.Goals as goal

pub invariant_of-self-clause-counts : goal.invariant_of-self-clause-counts
invariant_of-self-clause-counts g c = grind (arith, common_steps, given_read)
