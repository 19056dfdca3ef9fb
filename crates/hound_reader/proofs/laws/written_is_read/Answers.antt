use Rattle.hound_reader.proofs.CanonicalLemmas.{canonical_back}
use Rattle.hound_reader.proofs.laws.written_is_read.Goals as goal

pub returns : goal.returns
returns c = canonical_back
