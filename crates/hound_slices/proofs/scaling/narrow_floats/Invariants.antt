use Rattle.std.proofs.Common.{◌≡◌, ◌≤◌, length, map, take, drop}
use Rattle.std.specs.Float.{binary32, round_to_format}
use Rattle.std.specs.List.{count_by}
use Rattle.hound_slices.specs.Scaling.{becomes_infinite}
use Rattle.hound_slices.proofs.scaling.narrow_floats.Given as goal

abbrev pub invariant-loop-i : goal.invariant-loop-i
invariant-loop-i l = record {
  same : length l.out ≡ length l.fn.out;
  front : take l.i l.out ≡ map (round_to_format binary32) (take l.i l.samples);
  rest : drop l.i l.out ≡ drop l.i l.fn.out;
  count : l.count ≡ count_by becomes_infinite (take l.i l.samples);
  few : l.count ≤ l.i;
}
