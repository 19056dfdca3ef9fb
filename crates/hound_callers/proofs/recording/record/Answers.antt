use Rattle.std.proofs.Common.{[]}
use Rattle.hound_callers.proofs.recording.record.Goals as goal

pub returns-clause-left : goal.returns-clause-left
returns-clause-left g c =
    c.finalize_into-medium.ensures.left _ _ _ (c.record_blocks.ensures _ _ [] c.in_ok-recorder.ensures.recorded)

pub returns-clause-kept : goal.returns-clause-kept
returns-clause-kept g c modelled keeps =
    c.what_is_kept.ensures.kept modelled keeps _ _ _ _ (returns-clause-left g c)
