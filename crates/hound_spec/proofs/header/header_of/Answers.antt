use Rattle.std.proofs.lemmas.Grind.{common_steps}
use Rattle.std.proofs.Common.{arith}
use Rattle.hound_spec.specs.Header.{header}
use Rattle.hound_spec.proofs.HeaderLemmas.{and_then}
use Rattle.hound_spec.proofs.header.header_of.Goals as goal

pub returns : goal.returns
unfolding header
returns c = grind (arith, common_steps, and_then)
