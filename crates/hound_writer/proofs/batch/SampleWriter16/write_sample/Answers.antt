use Rattle.std.proofs.Common.{w16, arith, to_z-of_z}
use Rattle.std.proofs.lemmas.Grind.{common_steps}
use Rattle.hound_writer.proofs.Batches.{length-i16_bytes, i16s_more}
use Rattle.hound_writer.proofs.Recording.{recorded_same}
use Rattle.hound_writer.proofs.batch.SampleWriter16.write_sample.Goals as goal

pub invariant_of-self : goal.invariant_of-self
invariant_of-self g c = grind (arith, common_steps, w16, to_z-of_z, i16s_more)

pub returns : goal.returns
returns g c = grind (arith, common_steps, length-i16_bytes, recorded_same)
