use Rattle.std.proofs.Common.{inr, subst, take}
use Rattle.hound.specs.{at_beginning, data_start, new_file, recorder_of}
use Rattle.hound_callers.specs.Recorder.{IsFull, Saves}
use Rattle.hound_callers.proofs.recorder.record_part.Goals as goal

pub returns-in-Ok-clause-part : goal.returns-in-Ok-clause-part
returns-in-Ok-clause-part g c =
    let M = g.M.Placed in
    let file = new_file (at_beginning (M.state c.args.medium.now)) in
    inr (
      (λ tells keeps empty. subst
          (λ n. Saves c.args.spec_ex file (take n c.args.blocks.now) c.in-Ok.saved (M.state
          c.record_by_effects.new.medium))
          c.run_within-count.ensures.is (c.in-Ok.ensures.saved tells keeps empty)),
      λ kept tells fine. subst
          (λ n. IsFull (recorder_of c.args.spec_ex (data_start c.args.spec_ex) 0) (take n c.args.blocks.now)
          c.in-Ok.saved) c.run_within-count.ensures.is (c.in-Ok.ensures.cause kept tells fine),
    )
