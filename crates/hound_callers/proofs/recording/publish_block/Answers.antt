use Rattle.std.proofs.Common.{◌≡◌, false, inr, rules}
use Rattle.hound.specs.{mark_of}
use Rattle.hound_callers.proofs.Publishing.{unpublished_counts}
use Rattle.hound_callers.proofs.recording.publish_block.Goals as goal

pub returns-in_default-clause-cause : goal.returns-in_default-clause-cause
returns-in_default-clause-cause g c tells =
    let flushed = c.flush.ensures.checkpoints in
    let not : mark_of c.flush.result ≡ false = search rules in
    inr (unpublished_counts c.flush.result c.write_samples.new.self _ _ flushed.answers
    (flushed.publishes tells).faults not)
