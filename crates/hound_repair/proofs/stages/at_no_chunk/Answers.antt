use Rattle.std.proofs.lemmas.Grind.{common_steps}
use Rattle.std.proofs.Common.{◌∙◌, arith}
use Rattle.hound_repair.proofs.Stepping.{pass_both, three_left}
use Rattle.hound_repair.proofs.stages.at_no_chunk.Goals as goal

pub returns-clause-leads : goal.returns-clause-leads
returns-clause-leads c = λ looks file m not is. c.at_end.ensures.leads looks file m
    (not, is ∙ pass_both c.args.padded file c.args.damage.head (λ yes. grind (arith, common_steps, yes, m.held_is)))

pub returns-clause-nearer : goal.returns-clause-nearer
returns-clause-nearer c = λ n place inside.
    c.at_end.ensures.nearer n _ (three_left n place c.args.damage.head c.args.padded)
