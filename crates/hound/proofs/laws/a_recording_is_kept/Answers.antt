use Rattle.hound_writer.proofs.Directing.{step_ascends}
use Rattle.hound.proofs.Begun.{begun_survives}
use Rattle.hound.proofs.Mended.{mended_survives}
use Rattle.hound.proofs.Recorders.{directed_cut, directed_cut_survives, directed_kept, directed_survives}
use Rattle.hound.proofs.laws.a_recording_is_kept.Goals as goal

pub returns-clause-kept : goal.returns-clause-kept
returns-clause-kept c = directed_kept

pub returns-clause-survives : goal.returns-clause-survives
returns-clause-survives c = directed_survives

pub returns-clause-ascends : goal.returns-clause-ascends
returns-clause-ascends c s file known r m d synced = step_ascends s file known r m d.in_step synced

pub returns-clause-cut : goal.returns-clause-cut
returns-clause-cut c = directed_cut

pub returns-clause-cut_survives : goal.returns-clause-cut_survives
returns-clause-cut_survives c = directed_cut_survives

pub returns-clause-begun : goal.returns-clause-begun
returns-clause-begun c = begun_survives

pub returns-clause-mended : goal.returns-clause-mended
returns-clause-mended c = mended_survives
