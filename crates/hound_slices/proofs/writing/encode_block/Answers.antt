use Rattle.std.proofs.lemmas.Result.{err_from_is_err_and}
use Rattle.std.proofs.Common.{◌≡◌, ◌*◌, length, drop, refl, ◌∙◌, ap, arith, rules}
use Rattle.std.proofs.lemmas.List.{drop_at, take_at}
use Rattle.hound_writer.specs.{containers_in}
use Rattle.hound_sample.proofs.Joined.{joined}
use Rattle.hound_slices.proofs.Checks.{not_encoded, passed}
use Rattle.hound_slices.proofs.writing.encode_block.Goals as goal

pub returns-in_err-check_samples-clause-encodes : goal.returns-in_err-check_samples-clause-encodes
returns-in_err-check_samples-clause-encodes g c =
    let p = err_from_is_err_and c.from_residual.result c.from_residual.ensures.1 in
    let error = c.in_err-check_samples.field-0.0 in
    rw (p.1, p.2) (
      refl,
      not_encoded c.args.format g.S.Sample.container c.args.spec_ex c.args.samples.now
          (length c.args.out.now) error
          c.in_err-check_samples.ensures.unencoded,
    )

pub returns-clause-encodes : goal.returns-clause-encodes
returns-clause-encodes g c =
    let s = c.args.spec_ex in
    let w = s.bytes_per_sample in
    let values = c.args.samples.now in
    let n = length values * w in
    let rest = drop n c.args.out.now in
    let container = λ (v : g.row.S.Denot). g.S.Sample.container v s.spec.bits_per_sample w in
    let (list, list_is) = passed (containers_in g.S.Sample.container s values) c.in_ok-check_samples.ensures.have in
    let j = joined container w (λ _ b e. (g.met.S.Sample.in_width _ _ _ b e).0) values list list_is in
    let body_is = c.store_containers.ensures in
    let size : length c.store_containers.new.bytes ≡ n = ap length body_is ∙ omega (arith, j.size) in
    let same : s.spec.sample_format ≡ c.args.format = search rules in (
      same,
      search rules,
      list,
      list_is,
      take_at c.store_containers.new.bytes rest n size ∙ body_is ∙ j.bytes,
      drop_at c.store_containers.new.bytes rest n size,
      refl,
    )
