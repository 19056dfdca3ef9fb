use Rattle.std.proofs.Common.{Err, rules, subst, sym}
use Rattle.hound_writer.specs.{AsksForBlock}
use Rattle.hound_writer.specs.declared.effects.Report.{Report}
use Rattle.hound_writer.specs.declared.recorder.Recorder.{Recorder}
use Rattle.hound_c.proofs.hound_recorder_write.Goals as goal

pub returns-in-Err-clause-asks : goal.returns-in-Err-clause-asks
returns-in-Err-clause-asks c = (
  Err c.in-Err.error,
  subst (λ (x : Report × Recorder × Recorder). AsksForBlock x.0 c.args.samples x.1 x.2 (Err c.in-Err.error))
      (λ i. (c.report_of.ensures i, c.recorder_of-asked.ensures i, sym c.recorder_for_c.ensures.is i))
      c.in-Err.ensures,
  search rules,
)
