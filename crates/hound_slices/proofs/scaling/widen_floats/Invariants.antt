use Rattle.std.proofs.Common.{◌≡◌, length, take, drop}
use Rattle.hound_slices.proofs.scaling.widen_floats.Given as goal

abbrev pub invariant-loop-i : goal.invariant-loop-i
invariant-loop-i l = record {
  same : length l.out ≡ length l.fn.out;
  front : take l.i l.out ≡ take l.i l.samples;
  rest : drop l.i l.out ≡ drop l.i l.fn.out;
}
