use Rattle.hound_writer.proofs.Samples.{valid_of}
use Rattle.hound_writer.proofs.output.Output.spec_ex.Goals as goal

pub returns-clause-valid : goal.returns-clause-valid
returns-clause-valid g c =
    rw (← c.self.view_is) (valid_of g.W.Placed _ _ _ c.self.invariant)
