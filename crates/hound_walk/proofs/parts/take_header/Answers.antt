use Rattle.std.proofs.lemmas.Grind.{common_steps}
use Rattle.std.proofs.Common.{◌≡◌, ◌+◌, ◌++◌, slice_range, take, arith, sym, subst, drop}
use Rattle.std.proofs.lemmas.Result.{err_from_is_err_and}
use Rattle.hound_spec.specs.{fmt_tag}
use Rattle.hound_walk.proofs.WalkLemmas.{same_tag}
use Rattle.hound_walk.proofs.PartLemmas.{over_fault, header_cut, rejected_at, rejected_header, head_at, header_parts, size_long, reaches, passed_header, header_inside}
use Rattle.hound_walk.proofs.parts.take_header.Goals as goal

pub returns-then-taken-clause-leads : goal.returns-then-taken-clause-leads
returns-then-taken-clause-leads c = grind (arith, common_steps, over_fault, rejected_at)

pub returns-then-bytes-lt8-clause-leads : goal.returns-then-bytes-lt8-clause-leads
returns-then-bytes-lt8-clause-leads c = grind (arith, common_steps, header_cut, rejected_at)

pub returns-in_err-spec_ex-clause-leads : goal.returns-in_err-spec_ex-clause-leads
returns-in_err-spec_ex-clause-leads c = λ file w is.
    let p = err_from_is_err_and c.from_residual.result c.from_residual.ensures.1 in
    rw (p.1, p.2)
    (rejected_header file c.args.bytes.now c.args.found c.args.taken c.u32_at-chunk_len.result
    c.in_err-spec_ex.field-0.0 w is (omega arith) (omega arith) c.u32_at-chunk_len.ensures
    c.in_err-spec_ex.ensures.says.0)

pub returns-in-Data-clause-leads : goal.returns-in-Data-clause-leads
returns-in-Data-clause-leads c = grind (arith, common_steps, head_at)

pub returns-in-Fmt-clause-leads : goal.returns-in-Fmt-clause-leads
returns-in-Fmt-clause-leads c = λ file w is. let did = rw c.in-Fmt.is at c.in_ok-spec_ex.ensures in
    let h = c.args.bytes.now in (
      w,
      did.says.2,
      _,
      size_long h (omega arith),
      sym c.u32_at-chunk_len.ensures,
      subst (λ t. drop (12 + c.args.taken) file ≡ t ++ (slice_range h 4 8 ++ drop (20 + c.args.taken) file))
          (same_tag (take 4 h) fmt_tag did.says.1) (header_parts file h c.args.taken is (omega arith)),
    )

pub returns-in-Other-clause-leads : goal.returns-in-Other-clause-leads
returns-in-Other-clause-leads c = grind (arith, common_steps, reaches, passed_header, header_inside)
