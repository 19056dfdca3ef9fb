use Rattle.std.proofs.lemmas.Grind.{common_steps}
use Rattle.std.proofs.Common.{arith}
use Rattle.hound_writer.proofs.Batches.{kept_or_new, length-i16_bytes}
use Rattle.hound_writer.proofs.output.Output.lend_memory.Goals as goal

pub returns-then-len-num_samples-clause-length : goal.returns-then-len-num_samples-clause-length
returns-then-len-num_samples-clause-length g c = grind (arith, common_steps, kept_or_new, length-i16_bytes)

pub returns-in-Ok-clause-length : goal.returns-in-Ok-clause-length
returns-in-Ok-clause-length g c = grind (arith, common_steps, kept_or_new, length-i16_bytes)

pub returns-in-Err-clause-rejected : goal.returns-in-Err-clause-rejected
returns-in-Err-clause-rejected g c = grind (arith, common_steps, kept_or_new, length-i16_bytes)
