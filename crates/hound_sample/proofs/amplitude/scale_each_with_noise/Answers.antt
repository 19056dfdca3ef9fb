use mathlib.Core.Path.{ap, refl, sym, ◌∙◌}
use Rattle.std.proofs.Common.{arith, drop, length, map, not, rules, slice_index_or, of_z, take, to_z, to_z-of_z, w32, ◌+◌, ◌++◌, ◌*◌, ◌<◌, ◌≡◌}
use Rattle.std.proofs.lemmas.List.{take_all}
use Rattle.std.specs.List.{count_by}
use lib.Ieee.{add, binary64, nan}
use Rattle.hound_sample.specs.Container.{fits, int_container, joined_containers}
use Rattle.hound_sample.specs.Scale.{next_state, noise, with_noise, scaled, scaled_to}
use Rattle.hound_sample.proofs.Amplitudes.{counted, joined_next, next_with_noise, none_more, one_more, with_noise-length}
use Rattle.hound_sample.proofs.amplitude.scale_each_with_noise.Goals as goal

pub loop-i-preserved : goal.loop-i-preserved
loop-i-preserved g c =
    let bits = c.args.bits in
    let width = c.args.width in
    let i = c.loop-i.i in
    let float = g.S.Amplitude.amplitude in
    let values = c.args.amplitudes.now in
    let noisy = with_noise float bits c.args.state.now values in
    let less : i < length values = omega (arith, c.loop-i-test.true) in
    let some : i < length noisy = omega (arith, less, with_noise-length float bits c.args.state.now values) in
    let next = next_with_noise float bits c.args.state.now c.loop-i.next i values c.index-amplitudes-i.result less
    c.index-amplitudes-i.is c.loop-i.invariant.left in
    let given = c.noise_of.ensures ∙ ap (noise bits) c.next_state-next.ensures in
    let sum = c.sum_with-noisy.ensures ∙ (λ j. add binary64 (c.number.ensures j) (given j)) ∙ sym next.0 in
    let sample = c.int_of-sample.ensures.value ∙ ap (scaled_to bits) sum in
    let value : to_z w32 (of_z w32 c.int_of-sample.result) ≡ scaled_to bits (slice_index_or noisy i nan) =
    search (rules, to_z-of_z, sample) in
    record {
      size = c.store_container.ensures.size ∙ c.loop-i.invariant.size;
      state = c.next_state-next.ensures ∙ ap next_state c.loop-i.invariant.state ∙ one_more i c.args.state.now;
      left = next.1 ∙ ap (λ s. with_noise float bits s (drop (i + 1) values)) (sym c.next_state-next.ensures);
      stored = ap (λ n. take n c.store_container.new.bytes)
          (let same : (i + 1) * width ≡ i * width + width = omega arith in same)
          ∙ c.store_container.ensures.stored
          ∙ ap (λ l. l ++ take width c.container_of-container.result) c.loop-i.invariant.stored
          ∙ sym (joined_next bits width noisy i _ some
          (ap (λ v. int_container v bits width) (sym value) ∙ c.container_of-container.ensures));
      count = counted (λ x. fits bits (scaled bits x)) noisy i c.loop-i.count _ _ some c.loop-i.invariant.count sum
          c.int_of-sample.ensures.count;
      few = search rules;
    }

pub loop-i-init : goal.loop-i-init
loop-i-init g c = record {
  size = refl;
  state = none_more c.args.state.now;
  left = refl;
  stored = ap (λ n. take n c.args.bytes.now) (let none : 0 * c.args.width ≡ 0 = omega arith in none);
  count = refl;
  few = omega arith;
}

pub returns-clause-stored : goal.returns-clause-stored
returns-clause-stored g c =
    let noisy = with_noise g.S.Amplitude.amplitude c.args.bits c.args.state.now c.args.amplitudes.now in
    let same = with_noise-length g.S.Amplitude.amplitude c.args.bits c.args.state.now c.args.amplitudes.now in
    let all : take c.loop-i.i noisy ≡ noisy = take_all c.loop-i.i noisy (omega (arith, c.loop-i-test.false, same)) in
    let end : length c.args.amplitudes.now ≡ c.loop-i.i = omega (arith, c.loop-i-test.false, c.loop-i.auto.i-end) in
    let swapped : c.args.width * c.loop-i.i ≡ c.loop-i.i * c.args.width = omega arith in
    let whole : length c.loop-i.bytes ≡ c.loop-i.i * c.args.width =
    c.loop-i.invariant.size ∙ c.requires.room ∙ ap (λ n. c.args.width * n) end ∙ swapped in
    sym (take_all (c.loop-i.i * c.args.width) c.loop-i.bytes (omega (arith, whole)))
    ∙ c.loop-i.invariant.stored
    ∙ ap (λ xs. joined_containers (λ v. int_container v c.args.bits c.args.width) (map (scaled_to c.args.bits) xs)) all

pub returns-clause-clipped : goal.returns-clause-clipped
returns-clause-clipped g c =
    let noisy = with_noise g.S.Amplitude.amplitude c.args.bits c.args.state.now c.args.amplitudes.now in
    let same = with_noise-length g.S.Amplitude.amplitude c.args.bits c.args.state.now c.args.amplitudes.now in
    c.loop-i.invariant.count ∙ ap (count_by (λ x. not (fits c.args.bits (scaled c.args.bits x))))
    (take_all c.loop-i.i noisy (omega (arith, c.loop-i-test.false, same)))
