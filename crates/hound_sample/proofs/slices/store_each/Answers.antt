use Rattle.std.proofs.Common.{◌≡◌, ◌++◌, take, ap, sym, ◌∙◌, arith, Ok, IsOk, subst}
use Rattle.std.proofs.lemmas.Bool.{false≢true}
use Rattle.hound_sample.proofs.Joined.{each_has, encoded_bytes, encoded_ok, joined_more}
use Rattle.hound_sample.proofs.slices.store_each.Goals as goal
use Rattle.hound_sample.proofs.slices.store_each.Goals.{in-Ok, in-Err}

pub loop-sample-preserved : goal.loop-sample-preserved
loop-sample-preserved g c =
    let a = c.args in
    let loop = c.loop-sample in
    let container = λ (s : g.row.S.Denot). g.S.Sample.container s a.bits a.width in
    let has : IsOk (container c.sample-item.result) =
    each_has container a.samples.now loop.sample-index c.sample-item.result
    c.loop-sample-test.true c.sample-item.is c.requires.have in
    elim c.match-encode.branch [
      | in-Ok w ↦ let is : container c.sample-item.result ≡ Ok (take a.width c.match-encode.container) =
          subst (λ l. container c.sample-item.result ≡ Ok (take a.width l)) (sym w.container-is)
          (encoded_bytes _ _ a.width (λ b e. (g.met.S.Sample.in_width _ _ _ b e).0) w.in-Ok.ensures) in
          record {
            end = omega (arith, loop.invariant.end);
            size = c.store_container.ensures.size ∙ loop.invariant.size;
            stored = c.store_container.ensures.stored
                ∙ ap (λ l. l ++ take a.width c.match-encode.container) loop.invariant.stored
                ∙ sym (joined_more container a.samples.now loop.sample-index
                c.sample-item.result _ c.loop-sample-test.true c.sample-item.is is);
          }
      | in-Err w ↦ absurd (false≢true (encoded_ok _ _ w.in-Err.ensures ∙ has))
    ]
