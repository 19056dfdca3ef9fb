use Rattle.std.proofs.lemmas.Grind.{common_steps}
use Rattle.std.proofs.lemmas.Result.{err_from_is_err_and}
use Rattle.std.proofs.Common.{◌≡◌, [], ◌++◌, length, take, slice_range, true, false, refl, arith, length-append, length-take}
use Rattle.std.specs.Str.{bytes_eq}
use Rattle.std.proofs.KnownBytes.{Consumes-nil, Consumes-trans}
use Rattle.hound_spec.specs.{riff_tag, wave_tag}
use Rattle.hound_number.proofs.KnownSteps.{known_from}
use Rattle.hound_walk.proofs.FrontLemmas.{all_taken, front_cut}
use Rattle.hound_walk.proofs.WalkLemmas.{ne_test, no_riff, same_tag, halves}
use Rattle.hound_walk.proofs.chunks.read_riff_header.Goals as goal

pub returns-then-ne-clause-err : goal.returns-then-ne-clause-err
returns-then-ne-clause-err g c = grind (arith, common_steps, ne_test, known_from, no_riff)

pub returns-clause-ok : goal.returns-clause-ok
returns-clause-ok g c =
    let h = c.fill.new.buf in
    let k = c.fill-2.new.buf in
    let size = take 4 k in
    let e : bytes_eq h riff_tag ≡ true =
    ne_test _ false _ h _ riff_tag c.ne.ensures c.as_slice.ensures c.as_slice-2.ensures c.if-ne.false in
    let d : bytes_eq (slice_range k 4 8) wave_tag ≡ true = ne_test _ false _
    (slice_range k 4 8) _ wave_tag c.ne-2.ensures refl c.as_slice-3.ensures c.if-ne-2.false in
    known_from (h ++ k) _ _ _
    (Consumes-trans _ _ _ _ _ c.in_ok-fill.ensures.ok c.in_ok-fill-2.ensures.ok) (λ ys. (
      size,
      simp length-take (omega arith),
      grind (arith, common_steps, same_tag h riff_tag e, halves k, same_tag (slice_range k 4 8) wave_tag d),
      c.u32_at.ensures,
    ))

pub returns-in_err-fill-clause-taken : goal.returns-in_err-fill-clause-taken
returns-in_err-fill-clause-taken g c =
    let p = err_from_is_err_and c.from_residual.result c.from_residual.ensures.1 in
    rw (p.1, p.2)
    (front_cut [] (length c.fill.new.buf) _ _ _ c.in_err-fill.field-0.0
    (Consumes-nil (g.R.Input.left c.args.reader.now)) (omega arith)
    (c.in_err-fill.ensures.part) c.in_err-fill.ensures.err)

pub returns-then-ne-clause-taken : goal.returns-then-ne-clause-taken
returns-then-ne-clause-taken g c =
    all_taken c.fill.new.buf 4 _ _ c.in_ok-fill.ensures.ok (omega arith)

pub returns-in_err-fill-2-clause-taken : goal.returns-in_err-fill-2-clause-taken
returns-in_err-fill-2-clause-taken g c =
    let p = err_from_is_err_and c.from_residual-in_err-fill-2.result c.from_residual-in_err-fill-2.ensures.1 in
    rw (p.1, p.2)
    (front_cut c.fill.new.buf (length c.fill-2.new.buf) _ _ _ c.in_err-fill-2.field-0.0 c.in_ok-fill.ensures.ok
    (omega arith) c.in_err-fill-2.ensures.part c.in_err-fill-2.ensures.err)

pub returns-then-ne-2-clause-taken : goal.returns-then-ne-2-clause-taken
returns-then-ne-2-clause-taken g c =
    all_taken (c.fill.new.buf ++ c.fill-2.new.buf) 12 _ _
    (Consumes-trans _ _ _ _ _ c.in_ok-fill.ensures.ok c.in_ok-fill-2.ensures.ok)
    (omega (arith, length-append c.fill.new.buf c.fill-2.new.buf))
