use Rattle.hound_walk.proofs.WrittenLemmas.{header_head}
use Rattle.hound_walk.proofs.laws.written_is_head.Goals as goal

pub returns : goal.returns
returns c = header_head
