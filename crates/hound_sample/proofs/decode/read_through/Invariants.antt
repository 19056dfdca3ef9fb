use Rattle.std.proofs.Common.{◌≡◌, ◌≤◌, ◌-◌, length, map, take, drop, None, Ok}
use Rattle.hound_sample.specs.Reading.{ReadsEach}
use Rattle.hound_sample.proofs.decode.read_through.Given as goal

abbrev pub invariant-loop-done : goal.invariant-loop-done
invariant-loop-done g l = record {
  room : length l.piece ≡ length l.fn.piece;
  within : l.done ≤ length l.samples;
  same : length l.samples ≡ length l.fn.samples;
  rest : drop l.done l.samples ≡ drop l.done l.fn.samples;
  each : ReadsEach None (g.S.Decode.value l.fmt l.width l.bits) l.width
      (map Ok (take l.done l.samples)) (g.R.Read.remaining l.fn.reader) (g.R.Read.remaining l.reader);
}

abbrev pub decreases-loop-done : goal.decreases-loop-done
decreases-loop-done g l = length l.initial.samples - l.done
