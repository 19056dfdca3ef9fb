use Rattle.std.proofs.Common.{length}
use Rattle.hound_callers.proofs.recorder.+record_in_parts.Given as goal

abbrev pub decreases-record_in_parts : goal.decreases-record_in_parts
decreases-record_in_parts g l = length l.media.now
