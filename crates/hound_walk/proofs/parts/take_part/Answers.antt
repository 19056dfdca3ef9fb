use Rattle.std.proofs.lemmas.Grind.{common_steps}
use Rattle.std.proofs.Common.{arith}
use Rattle.hound_walk.proofs.PartLemmas.{last_is_there, last_is_missing}
use Rattle.hound_walk.proofs.parts.take_part.Goals as goal

pub returns-in-Front-clause-leads : goal.returns-in-Front-clause-leads
returns-in-Front-clause-leads c = λ file at is. c.take_front.ensures.leads file (rw c.in-Front.is at is)

pub returns-then-bytes-eq0-clause-leads : goal.returns-then-bytes-eq0-clause-leads
returns-then-bytes-eq0-clause-leads c = grind (arith, common_steps, last_is_missing)

pub returns-else-bytes-eq0-clause-leads : goal.returns-else-bytes-eq0-clause-leads
returns-else-bytes-eq0-clause-leads c = grind (arith, common_steps, last_is_there)

pub returns-in-Fmt-clause-leads : goal.returns-in-Fmt-clause-leads
returns-in-Fmt-clause-leads c = λ file at is.
    c.take_fmt.ensures.leads file c.args.walk.found (rw c.in-Fmt.is at at) (rw c.in-Fmt.is at is)
