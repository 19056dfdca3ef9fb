use Rattle.std.proofs.Common.{◌≡◌, ◌+◌, ◌-◌, ◌*◌, ◌%◌, ◌≤◌, ◌<◌, ◌^◌, ◌++◌, length, take, drop, sym, ◌∙◌, ap, subst, arith, rules, length-append}
use Rattle.std.proofs.lemmas.List.{drop-take, take-take}
use Rattle.hound_spec.specs.{padding}
use Rattle.hound_spec.proofs.HeaderLemmas.{length-padding}
use Rattle.hound_sample.specs.{containers, joined_containers}
use Rattle.hound_writer.specs.{ReadsAs, containers_in, with_sizes}
use Rattle.hound_sample.proofs.Containers.{containers_front}
use Rattle.hound_sample.proofs.Joined.{joined}
use Rattle.hound_slices.specs.Writing.{AppendsSamples}
use Rattle.hound_slices.proofs.Checks.{passed}
use Rattle.hound_slices.proofs.Appended.{reads, two}
use Rattle.hound_slices.proofs.writing.append_block.Goals as goal

pub returns-clause-appends : goal.returns-clause-appends
returns-clause-appends g c =
    let head = c.in_ok-head.head in
    let s = head.spec_ex in
    let w = s.bytes_per_sample in
    let values = c.args.samples.now in
    let samples = c.in_ok-head.stored in
    let file = c.args.file.now in
    let used = c.args.used in
    let h = head.data_start in
    let dl = c.in_ok-data_length.data_length in
    let n = c.in_ok-data_length.size in
    let container = λ (v : g.row.S.Denot). g.S.Sample.container v s.spec.bits_per_sample w in
    let (list, list_is) = passed (containers_in g.S.Sample.container s values) c.in_ok-check_samples.ensures.have in
    let j = joined container w (λ _ b e. (g.met.S.Sample.in_width _ _ _ b e).0) values list list_is in
    let body = joined_containers container values in
    let added = body ++ padding dl in
    let k = w * length values + dl % 2 in
    let total : length values + samples ≡ samples + length list = omega (arith, j.count) in
    let dl_is : dl ≡ (samples + length list) * w = c.in_ok-data_length.ensures.data ∙ ap (λ m. m * w) total in
    let size : length added ≡ k = omega (arith, length-append body (padding dl), j.size, length-padding dl) in
    let n_is : n ≡ h + samples * w + k =
    omega (arith, c.in_ok-data_length.ensures.end, c.in_ok-data_length.ensures.data) in
    let small : (samples + length list) * w < 2 ^ 32 = search rules in
    let within : h + samples * w ≤ used = omega (arith, c.if-end-used.false) in
    let inside : used ≤ length file = omega (arith, c.if-used-file.false) in
    let room : n ≤ length file = omega (arith, c.if-size-file.false) in
    let front = c.in_ok-head.ensures.start.0 in
    let data_is = ap (λ l. l ++ padding dl) j.bytes in
    let new = two s samples h used n k (n - 8) list file added (padding dl) data_is size front within inside n_is room
    small in
    let all : c.set_sizes.new.bytes ≡ new =
    c.set_sizes.ensures ∙ (λ i. with_sizes (h - 4) (n - 8) (dl_is i) (c.write_data_at.ensures i)) in
    let r = c.in_ok-head.ensures.readable in
    let long : used ≡ h + (used - h) = omega (arith, within) in
    let cut : drop h (take used file) ≡ take (used - h) (drop h file) =
    ap (λ m. drop h (take m file)) long ∙ drop-take h (used - h) file in
    let same : containers w samples (drop h file) ≡ containers w samples (drop h (take used file)) =
    sym (containers_front w samples (drop h (take used file)) (drop h file)
    (ap (take (samples * w)) cut ∙ take-take (samples * w) (used - h) (drop h file) (omega (arith, within)))) in
    subst (AppendsSamples c.args.format g.S.Sample.container values used n file) (sym all) (record {
      spec_ex = s;
      samples = samples;
      start = h;
      list = list;
      within = inside;
      readable = r;
      held = within;
      format_is = search rules;
      pair = search rules;
      is = list_is;
      file = (c.in_ok-data_length.ensures.frames, c.in_ok-data_length.ensures.fits);
      size = c.in_ok-data_length.ensures.end;
      room = room;
      bytes = λ i. with_sizes (h - 4) (n - 8) (sym total i * w) (take (h + samples * w) file
          ++ ((j.bytes i ++ padding (c.in_ok-data_length.ensures.data i)) ++ drop (sym n_is i) file));
      reads = subst (λ l. ReadsAs s h (l ++ list) (take n new)) same
          (reads s samples h used n k (n - 8) list file added (padding dl) data_is size front within inside n_is room
          small
          r.len r.head c.in_ok-head.ensures.sound.1
          (ap (λ m. m % s.spec.channels) (sym total) ∙ c.in_ok-data_length.ensures.frames) j.back);
    })
