use Rattle.std.proofs.lemmas.Result.{err_from_is_err_and}
use Rattle.std.proofs.Common.{◌≡◌, ◌+◌, ◌-◌, ◌*◌, ◌%◌, ◌≤◌, ◌++◌, length, take, drop, refl, sym, ◌∙◌, ap, subst, arith, rules, length-append, length-drop}
use Rattle.std.proofs.lemmas.List.{take_at}
use Rattle.std.proofs.lemmas.Slice.{drop-append-drop}
use Rattle.hound_slices.proofs.Puts.{drop_put, put, take_put}
use Rattle.std.specs.List.{concat}
use Rattle.hound_spec.specs.{canonical, data_start, greatest_u32, header, padding, riff_size}
use Rattle.hound_spec.proofs.HeaderLemmas.{data_start_least, length-header, length-padding}
use Rattle.hound_sample.specs.{joined_containers}
use Rattle.hound_writer.specs.{containers_in}
use Rattle.hound_sample.proofs.Joined.{joined}
use Rattle.hound_slices.proofs.Checks.{not_written, passed}
use Rattle.hound_slices.proofs.writing.write_file.Goals as goal

pub returns-in_err-check_samples-clause-writes : goal.returns-in_err-check_samples-clause-writes
returns-in_err-check_samples-clause-writes g c =
    let p = err_from_is_err_and c.from_residual.result c.from_residual.ensures.1 in
    let error = c.in_err-check_samples.field-0.0 in
    rw (p.1, p.2) (
      refl,
      not_written c.args.format g.S.Sample.container c.args.spec_ex c.args.samples.now
          (length c.args.out.now) error
          c.in_err-check_samples.ensures.unencoded,
    )

pub returns-clause-writes : goal.returns-clause-writes
returns-clause-writes g c =
    let s = c.args.spec_ex in
    let w = s.bytes_per_sample in
    let values = c.args.samples.now in
    let old = c.args.out.now in
    let container = λ (v : g.row.S.Denot). g.S.Sample.container v s.spec.bits_per_sample w in
    let start = c.header_length-data_start.result in
    let len = c.in_ok-data_length.data_length in
    let end = c.in_ok-data_length.size in
    let (list, list_is) = passed (containers_in g.S.Sample.container s values) c.in_ok-check_samples.ensures.have in
    let j = joined container w (λ _ b e. (g.met.S.Sample.in_width _ _ _ b e).0) values list list_is in
    let head = header s (end - 8) len in
    let head_long : length head ≡ start = length-header s (end - 8) len ∙ sym c.header_length-data_start.ensures in
    let begun : c.put_header.new.out ≡ head ++ drop start old =
    c.put_header.ensures ∙ ap (λ m. head ++ drop m old) (sym c.header_length-data_start.ensures) in
    let k = w * length values + len % 2 in
    let body = joined_containers container values ++ padding len in
    let size : length body ≡ k =
    omega (arith, length-append (joined_containers container values) (padding len), j.size, length-padding len) in
    let end_is : end ≡ start + k = omega (arith, c.in_ok-data_length.ensures.end, c.in_ok-data_length.ensures.data) in
    let within : start + k ≤ length (head ++ drop start old) =
    omega (arith, end_is, length-append head (drop start old), head_long, length-drop start old, c.if-size-out.false) in
    let long : len ≡ length (concat list) =
    omega (arith, c.in_ok-data_length.ensures.data, j.size, ap length j.bytes) in
    let riff : end - 8 ≡ riff_size (data_start s) (length (concat list)) = omega (
      arith,
      long,
      c.in_ok-data_length.ensures.end,
      c.in_ok-data_length.ensures.data,
      c.header_length-data_start.ensures,
      data_start_least s,
    ) in
    let file_is : take end c.write_data_at.new.out ≡ canonical s list =
    ap (take end) c.write_data_at.ensures ∙ ap (λ out. take end (put start k out body)) begun
    ∙ take_put start k (head ++ drop start old) body size within end end_is
    ∙ ap (λ l. l ++ body) (take_at head (drop start old) start head_long)
    ∙ (λ i. header s (riff i) (long i) ++ (j.bytes i ++ padding (long i))) in (
      search rules,
      search rules,
      list,
      list_is,
      file_is,
      ap (drop end) c.write_data_at.ensures ∙ ap (λ out. drop end (put start k out body)) begun
          ∙ drop_put start k (head ++ drop start old) body size within end (omega (arith, end_is))
          ∙ drop-append-drop start old head end (omega (arith, end_is)) head_long,
      omega (arith, c.in_ok-data_length.ensures.end, c.header_length-data_start.ensures),
      (
        c.in_ok-data_length.ensures.frames,
        subst (λ k. riff_size k (length values * w) ≤ greatest_u32) c.header_length-data_start.ensures
            c.in_ok-data_length.ensures.fits,
      ),
    )
