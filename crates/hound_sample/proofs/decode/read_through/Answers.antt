use Rattle.std.proofs.lemmas.Grind.{common_steps}
use Rattle.std.proofs.Common.{◌≡◌, ◌≤◌, ◌+◌, ◌-◌, ◌*◌, ◌/◌, ◌++◌, ℕ, List, arith, length, map, take, drop, ◌∙◌}
use Rattle.std.specs.Prelude.{min}
use Rattle.std.proofs.lemmas.List.{length-append, length-take-le, length-drop, take-take, take-append-le}
use Rattle.std.proofs.Math.Nat.{div-mul-le_self, div-le_of_le-mul, lt-div-mul-add, le-div_iff_mul-le, div-lt_iff_lt-mul, mul-div_cancel_left}
use Rattle.std.proofs.lemmas.Slice.{drop-put_mid}
use Rattle.hound_sample.specs.Container.{containers}
use Rattle.hound_sample.proofs.Many.{decoded, each_beyond, each_ended, drop_further}
use Rattle.hound_sample.proofs.decode.read_through.Goals as goal

-- a front of a front of bytes that more follow
front_of_front : (n m : ℕ) (bytes more : List ℕ) → n ≤ m → m ≤ length bytes
    → take n (take n (bytes ++ more)) ≡ take n (take m bytes)
front_of_front n m bytes more few within = grind (arith, common_steps, take-take, take-append-le)

-- as many containers as are needed fit into a piece
wanted_fit : (wanted room size width : ℕ) → wanted ≡ min room (size / width) → wanted * width ≤ size
wanted_fit wanted room size width is = grind (arith, common_steps)

-- no more are read than are needed
count_fits : (taken wanted width : ℕ) → taken ≤ wanted * width → taken / width ≤ wanted
count_fits taken wanted width within = div-le_of_le-mul width (omega (arith, within))

-- if all bytes were taken, all are read
count_all : (taken wanted width : ℕ) → 1 ≤ width → taken ≡ wanted * width → taken / width ≡ wanted
count_all taken wanted width some all = grind (arith, common_steps, mul-div_cancel_left)

pub returns-in-Err-clause-each : goal.returns-in-Err-clause-each
returns-in-Err-clause-each g c =
    let width = c.args.width in
    let meaning = g.S.Decode.value c.args.fmt width c.args.bits in
    let taken = c.read_piece-taken.result.0 in
    let piece = c.read_piece-taken.new.piece in
    let bytes = take taken piece in
    let count = taken / width in
    let done = c.loop-done.done in
    let wanted = c.min-wanted.result in
    let room = wanted_fit wanted _ _ width c.min-wanted.ensures in
    let piece_size : length piece ≡ wanted * width = c.read_piece-taken.auto.piece
    ∙ length-take-le (wanted * width) c.loop-done.piece (omega (arith, room, c.loop-done.invariant.room)) in
    let few = count_fits taken wanted width (omega (arith, piece_size, c.read_piece-taken.ensures.within)) in
    let end : done + count ≤ length c.loop-done.samples =
    omega (arith, few, c.min-wanted.ensures, c.loop-done.invariant.within) in
    let size : length bytes ≡ taken = length-take-le taken piece c.read_piece-taken.ensures.within in
    let whole = div-mul-le_self taken width in
    let torn = lt-div-mul-add {a = taken} {b = width} c.requires.width.0 in
    let part : length (take (done + count - done) (drop done c.loop-done.samples)) ≡ count =
    length-take-le (done + count - done) (drop done c.loop-done.samples)
    (omega (arith, end, length-drop done c.loop-done.samples)) ∙ omega arith in
    let values : c.decode_each.new.samples ≡ map meaning (containers width count bytes) =
    decoded meaning width count _ _ _ bytes c.decode_each.ensures part
    (front_of_front _ _ _ _ whole c.read_piece-taken.ensures.within) in
    each_ended meaning width done _ count bytes c.loop-done.samples _ c.in-Err.error _ _ _
    c.loop-done.invariant.within (omega (arith, whole, size)) (omega (arith, torn, size))
    c.read_piece-taken.ensures.taken values c.loop-done.invariant.each

pub returns-in-Err-clause-front : goal.returns-in-Err-clause-front
returns-in-Err-clause-front g c = grind (
  arith,
  common_steps,
  wanted_fit,
  length-take-le,
  count_fits,
  length-drop,
  div-lt_iff_lt-mul,
  drop-put_mid,
  drop_further,
)

pub loop-done-preserved : goal.loop-done-preserved
loop-done-preserved g c = grind (
  arith,
  common_steps,
  wanted_fit,
  length-take-le,
  count_all,
  length-drop,
  le-div_iff_mul-le,
  decoded,
  front_of_front,
  div-mul-le_self,
  length-append,
  drop-put_mid,
  drop_further,
  each_beyond,
)

pub slice_bounds-read_piece-end-in-loop-done : goal.slice_bounds-read_piece-end-in-loop-done
slice_bounds-read_piece-end-in-loop-done g c = grind (arith, common_steps)

pub slice_bounds-decode_each-end : goal.slice_bounds-decode_each-end
slice_bounds-decode_each-end g c = grind (arith, common_steps)

pub slice_bounds-decode_each-end-in-loop-done : goal.slice_bounds-decode_each-end-in-loop-done
slice_bounds-decode_each-end-in-loop-done g c = grind (arith, common_steps)

pub overflow_add-done : goal.overflow_add-done
overflow_add-done g c = grind (arith, common_steps)

pub decode_each-requires-clause-whole : goal.decode_each-requires-clause-whole
decode_each-requires-clause-whole g c = grind (arith, common_steps)

pub loop-done-smaller : goal.loop-done-smaller
loop-done-smaller g c = grind (arith, common_steps)
