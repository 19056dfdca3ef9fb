use Rattle.std.proofs.lemmas.Grind.{common_steps}
use Rattle.std.proofs.Common.{arith}
use Rattle.std.proofs.lemmas.List.{map-append, take_more_set, drop-set-lt}
use Rattle.hound_sample.proofs.Many.{each_more, drop_further}
use Rattle.hound_sample.proofs.sample.Sample.read_many.Goals as goal

pub returns-in-Err-clause-each : goal.returns-in-Err-clause-each
returns-in-Err-clause-each g c =
    each_more _ _ _ _ _ _ _ _ c.loop-i.invariant.each c.in-Err.ensures.reads

pub loop-i-preserved : goal.loop-i-preserved
loop-i-preserved g c = grind (arith, common_steps, take_more_set, drop-set-lt, drop_further, map-append, each_more)
