use Rattle.hound_walk.proofs.FrontLemmas.{front_reported}
use Rattle.hound_walk.proofs.chunks.read_wave_header.Goals as goal

pub returns-in-Err-clause-rejected : goal.returns-in-Err-clause-rejected
returns-in-Err-clause-rejected g c =
    front_reported c.in-Err.e c.error_of.result _ _ c.error_of.ensures c.in-Err.ensures.err
    c.in-Err.ensures.taken
