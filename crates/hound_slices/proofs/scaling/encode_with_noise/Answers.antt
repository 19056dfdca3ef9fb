use Rattle.std.proofs.Common.{ap, rules, sym, ◌*◌, ◌∙◌}
use Rattle.std.proofs.lemmas.List.{length-map}
use Rattle.hound_sample.proofs.Amplitudes.{with_noise-length}
use Rattle.hound_sample.specs.{scaled, scaled_to, with_noise}
use Rattle.hound_slices.proofs.Scaled.{clipped_fits, encoded}
use Rattle.hound_slices.proofs.scaling.encode_with_noise.Goals as goal

pub returns-in_err-end-clause-encodes : goal.returns-in_err-end-clause-encodes
returns-in_err-end-clause-encodes g c =
    let s = c.args.spec_ex in
    let noisy = with_noise g.S.Amplitude.amplitude s.spec.bits_per_sample c.args.state.now c.args.samples.now in
    search (
      rules,
      length-map noisy (scaled_to s.spec.bits_per_sample),
      with_noise-length g.S.Amplitude.amplitude s.spec.bits_per_sample c.args.state.now c.args.samples.now,
    )

pub returns-clause-encodes : goal.returns-clause-encodes
returns-clause-encodes g c =
    let s = c.args.spec_ex in
    let bits = s.spec.bits_per_sample in
    let float = g.S.Amplitude.amplitude in
    let seed = c.args.state.now in
    let values = c.args.samples.now in
    let noisy = with_noise float bits seed values in
    let n = c.in_ok-end.end in
    encoded s (scaled_to bits) noisy n c.store_with_noise.new.bytes c.args.out.now
    c.in_ok-end.ensures.format c.in_ok-end.ensures.pair (λ x. clipped_fits bits (scaled bits x))
    (c.in_ok-end.ensures.size ∙ ap (λ k. k * s.bytes_per_sample)
    (sym (length-map noisy (scaled_to bits) ∙ with_noise-length float bits seed values)))
    c.store_with_noise.ensures.stored
