use Rattle.std.proofs.Common.{◌&&◌, sym, ◌∙◌}
use Rattle.hound_sample.proofs.Joined.{encoded_ok, first_rejected, ok_more, rejected_as}
use Rattle.hound_sample.proofs.slices.check_containers.Goals as goal

pub returns-in-Err : goal.returns-in-Err
returns-in-Err g c =
    let a = c.args in
    let container = λ (s : g.row.S.Denot). g.S.Sample.container s a.bits a.width in
    rw c.reason_of.ensures
    (sym (rejected_as _ _ c.in-Err.error c.in-Err.ensures
    (λ rejection. first_rejected container a.samples.now c.loop-sample.sample-index
    c.sample-item.result rejection c.loop-sample-test.true c.sample-item.is
    c.loop-sample.invariant)))

pub loop-sample-preserved : goal.loop-sample-preserved
loop-sample-preserved g c =
    let a = c.args in
    let container = λ (s : g.row.S.Denot). g.S.Sample.container s a.bits a.width in
    ok_more container a.samples.now c.loop-sample.sample-index c.sample-item.result
    c.loop-sample-test.true c.sample-item.is
    ∙ (λ i. c.loop-sample.invariant i && (sym (encoded_ok _ _ c.in_default.ensures)) i)
