use Rattle.std.proofs.lemmas.Grind.{common_steps}
use Rattle.std.proofs.Common.{arith}
use Rattle.hound_reader.proofs.OpeningLemmas.{not_opened}
use Rattle.hound_reader.proofs.ReaderLemmas.{is_reported}
use Rattle.hound_reader.proofs.reader.WavReader.try_new.Goals as goal

pub returns-in-Err-clause-opens : goal.returns-in-Err-clause-opens
returns-in-Err-clause-opens g c tells = grind (arith, common_steps, not_opened)

pub returns-in-Err-clause-reported : goal.returns-in-Err-clause-reported
returns-in-Err-clause-reported g c = is_reported c.in-Err.stop c.error_of.result c.error_of.ensures
