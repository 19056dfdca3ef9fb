use Rattle.std.proofs.Common.{◌≡◌, ◌+◌, ◌-◌, ◌*◌, ◌/◌, ◌≤◌, ◌<◌, min, length, drop, map, ◌∙◌, ap, arith, rules}
use Rattle.std.proofs.lemmas.List.{take-take}
use Rattle.std.proofs.lemmas.Nat.{mul-le}
use Rattle.std.proofs.Math.Nat.{mul-div_left}
use Rattle.hound_sample.specs.{containers}
use Rattle.hound_sample.proofs.Containers.{containers_front}
use Rattle.hound_reader.specs.{meaning_at}
use Rattle.hound_slices.proofs.Blocks.{inside, part_is, part_long}
use Rattle.hound_slices.proofs.reading.read_block.Goals as goal

pub slice_bounds-decode_front-end : goal.slice_bounds-decode_front-end
slice_bounds-decode_front-end g c =
    let w = c.in_ok-head.head.spec_ex.bytes_per_sample in
    let long = length c.args.file.now - c.in_ok-head.head.data_start in
    let count = c.min-stored.result - c.args.first in
    let few : c.args.first + count ≤ long / w = search rules in
    let there : (c.args.first + count) * w ≤ long = inside w (c.args.first + count) long (search rules) few in
    search rules

pub returns : goal.returns
returns g c =
    let head = c.in_ok-head.head in
    let s = head.spec_ex in
    let w = s.bytes_per_sample in
    let file = c.args.file.now in
    let start = head.data_start in
    let first = c.args.first in
    let count = c.min-stored.result - first in
    let n = c.decode_front.result in
    let some : 0 < w = search rules in
    let few : first + count ≤ (length file - start) / w = search rules in
    let is = part_is w count first start file some few in
    let count_is : n ≡ min (length c.args.out.now) count = c.decode_front.ensures.count
    ∙ ap (λ k. min (length c.args.out.now) (k / w)) (ap length is ∙ part_long w count first start file some few)
    ∙ ap (min (length c.args.out.now)) (mul-div_left count some) in
    record {
      spec_ex = s;
      samples = c.in_ok-head.samples;
      start = start;
      readable = c.in_ok-head.ensures.readable;
      taken = c.decode_front.ensures.taken;
      count = count_is ∙ search rules;
      end = λ none room. search rules;
      front = c.decode_front.ensures.front ∙ ap (map (meaning_at g.S.Decode.value s)) (ap (containers w n) is
          ∙ containers_front w n _ _ (take-take (n * w) (count * w) (drop (start + first * w) file)
          (mul-le n w count w (omega (arith, count_is)) (omega arith))));
      rest = c.decode_front.ensures.rest;
    }
