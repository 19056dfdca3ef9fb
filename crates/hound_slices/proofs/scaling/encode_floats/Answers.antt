use Rattle.std.proofs.Common.{ap, sym, ◌*◌, ◌∙◌}
use Rattle.std.proofs.lemmas.List.{length-map}
use Rattle.hound_sample.specs.{scaled, scaled_to}
use Rattle.hound_slices.proofs.Scaled.{clipped_fits, encoded}
use Rattle.hound_slices.proofs.scaling.encode_floats.Goals as goal

pub returns-clause-encodes : goal.returns-clause-encodes
returns-clause-encodes g c =
    let s = c.args.spec_ex in
    let bits = s.spec.bits_per_sample in
    let float = g.S.Amplitude.amplitude in
    let values = c.args.samples.now in
    let n = c.in_ok-end.end in
    encoded s (λ x. scaled_to bits (float x)) values n c.store_amplitudes.new.bytes c.args.out.now
    c.in_ok-end.ensures.format c.in_ok-end.ensures.pair (λ x. clipped_fits bits (scaled bits (float x)))
    (c.in_ok-end.ensures.size
    ∙ ap (λ k. k * s.bytes_per_sample) (sym (length-map values (λ x. scaled_to bits (float x)))))
    c.store_amplitudes.ensures.stored
