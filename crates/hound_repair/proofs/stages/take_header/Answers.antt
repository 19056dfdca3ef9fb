use Rattle.std.proofs.Common.{Ok, subst}
use Rattle.hound_walk.specs.{LeadsTo}
use Rattle.hound_repair.proofs.stages.take_header.Goals as goal

pub returns-in-Ok-Data-clause-leads : goal.returns-in-Ok-Data-clause-leads
returns-in-Ok-Data-clause-leads c = λ file size at is. c.after_head.ensures.at file size
    (subst (λ r. LeadsTo file (Ok r)) c.in-Ok-Data.field-0-is (c.in-Ok-Data.ensures.leads file at is))
