use Rattle.std.proofs.lemmas.Grind.{common_steps}
use Rattle.std.proofs.Common.{arith}
use Rattle.std.proofs.lemmas.Int.{ints}
use Rattle.hound_reader.proofs.SeekLemmas.{frame_small, counted_small, shifts_so}
use Rattle.hound_reader.proofs.reader.WavReader.seek.Goals as goal

pub returns-clause-source : goal.returns-clause-source
returns-clause-source g c tells = grind (arith, common_steps, frame_small, counted_small, shifts_so, ints)
