use Rattle.std.proofs.Common.{◌&&◌, sym, ◌∙◌}
use Rattle.hound_sample.proofs.Joined.{encoded_ok, ok_more}
use Rattle.hound_sample.proofs.slices.all_have.Goals as goal

pub loop-sample-preserved : goal.loop-sample-preserved
loop-sample-preserved g c =
    let a = c.args in
    let container = λ (s : g.row.S.Denot). g.S.Sample.container s a.bits a.width in
    (λ i. c.loop-sample.invariant i && (c.is_ok-all.ensures.value ∙ encoded_ok _ _ c.encode.ensures) i)
    ∙ sym (ok_more container a.samples.now c.loop-sample.sample-index c.sample-item.result
    c.loop-sample-test.true c.sample-item.is)
