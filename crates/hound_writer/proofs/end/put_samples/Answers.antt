use Rattle.std.proofs.lemmas.Grind.{common_steps}
use Rattle.std.proofs.Common.{◌≡◌, ◌+◌, ◌*◌, length, ap, ◌∙◌, arith, rules}
use Rattle.hound_sample.proofs.Joined.{have_part, joined_size}
use Rattle.hound_writer.proofs.PutsMany.{piece_cut, piece_out}
use Rattle.hound_writer.proofs.end.put_samples.Goals as goal

pub extend_by-requires-clause-have : goal.extend_by-requires-clause-have
extend_by-requires-clause-have g c = grind (arith, common_steps, have_part)

pub loop-done-preserved : goal.loop-done-preserved
loop-done-preserved g c =
    let a = c.args in
    let loop = c.loop-done in
    record {
      within = search rules;
      takes = λ t. piece_out (λ (s : g.row.S.Denot). g.S.Sample.container s a.bits a.width) a.width
          (λ _ b e. (g.met.S.Sample.in_width _ _ _ b e).0) g.M.Placed.keeps a.samples.now
          c.requires.have loop.done _ (omega arith) (search rules) _ _ _ (loop.invariant.takes t) _
          (c.as_slice.ensures ∙ rw c.clear.ensures at c.extend_by.ensures) tt (c.in_ok-put_all.ensures t);
      faults = λ t. let put = c.in_ok-put_all.ensures t in put.faults ∙ loop.invariant.faults t;
    }

pub returns-in_err-put_all : goal.returns-in_err-put_all
returns-in_err-put_all g c t =
    let a = c.args in
    let loop = c.loop-done in
    piece_cut (λ (s : g.row.S.Denot). g.S.Sample.container s a.bits a.width) a.width
    (λ _ b e. (g.met.S.Sample.in_width _ _ _ b e).0) g.M.Placed.keeps a.samples.now
    c.requires.have loop.done (loop.done + c.min-count.result) (omega arith) (search rules) _ _ _
    (loop.invariant.takes t) _ (c.as_slice.ensures ∙ rw c.clear.ensures at c.extend_by.ensures) _
    c.from_residual.result c.from_residual.ensures.0 (loop.invariant.faults t)
    (c.in_err-put_all.ensures t)

pub returns : goal.returns
returns g c t =
    let W = g.M.Placed in
    let a = c.args in
    let loop = c.loop-done in
    let size = joined_size (λ (s : g.row.S.Denot). g.S.Sample.container s a.bits a.width) a.width
    (λ _ b e. (g.met.S.Sample.in_width _ _ _ b e).0) a.samples.now c.requires.have in
    let all : loop.done ≡ length a.samples.now = omega (arith, loop.invariant.within, c.loop-done-test.false) in
    record {
      count = a.width * loop.done;
      within = omega (arith, size, ap (λ n. a.width * n) all);
      whole = omega (arith, size, ap (λ n. a.width * n) all);
      part = tt;
      takes = loop.invariant.takes t;
      faults = loop.invariant.faults t;
    }
