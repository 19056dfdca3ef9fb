use Rattle.std.proofs.lemmas.Grind.{common_steps}
use Rattle.std.proofs.Common.{arith}
use Rattle.hound_commands.proofs.commands.pack.Goals as goal

pub returns-in_err-flush-clause-until : goal.returns-in_err-flush-clause-until
returns-in_err-flush-clause-until g c = grind (arith, common_steps)
