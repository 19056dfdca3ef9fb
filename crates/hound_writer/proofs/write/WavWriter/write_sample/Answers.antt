use Rattle.std.proofs.Common.{Ok, Err, refl, rules}
use Rattle.hound_writer.specs.Accepting.{mark_of, one}
use Rattle.hound_writer.specs.Calls.{made, marked}
use Rattle.hound_writer.proofs.Recording.{recorded_write}
use Rattle.hound_writer.proofs.write.WavWriter.write_sample.Goals as goal

pub returns-in-Ok-clause-recorded : goal.returns-in-Ok-clause-recorded
returns-in-Ok-clause-recorded g c s file known so_far =
    let W = g.W.Placed in
    recorded_write W made
    (λ x. one (g.S.Sample.container c.args.sample x.spec.bits_per_sample x.bytes_per_sample))
    (Ok tt) s file known _ _ (λ _. (refl, tt)) so_far (search rules)

pub returns-in-Ok-clause-marked : goal.returns-in-Ok-clause-marked
returns-in-Ok-clause-marked g c s file known so_far =
    let W = g.W.Placed in
    recorded_write W (λ asked. marked asked (mark_of {T = Unit {0}} (Ok tt)))
    (λ x. one (g.S.Sample.container c.args.sample x.spec.bits_per_sample x.bytes_per_sample))
    (Ok tt) s file known _ _ (λ _. (refl, refl)) so_far (search rules)

pub returns-clause-recorded : goal.returns-clause-recorded
returns-clause-recorded g c s file known so_far =
    let W = g.W.Placed in
    recorded_write W made
    (λ x. one (g.S.Sample.container c.args.sample x.spec.bits_per_sample x.bytes_per_sample))
    (Err c.error_of_sample.result) s file known _ _ (λ _. (refl, tt)) so_far (search rules)

pub returns-clause-marked : goal.returns-clause-marked
returns-clause-marked g c s file known so_far =
    let W = g.W.Placed in
    recorded_write W (λ asked. marked asked (mark_of {T = Unit {0}} (Err c.error_of_sample.result)))
    (λ x. one (g.S.Sample.container c.args.sample x.spec.bits_per_sample x.bytes_per_sample))
    (Err c.error_of_sample.result) s file known _ _ (λ _. (refl, refl)) so_far (search rules)
