use Rattle.std.proofs.Common.{◌≡◌, length, map, take, drop, Ok}
use Rattle.std.specs.Prelude.{IsSome}
use Rattle.hound_sample.specs.Reading.{ReadsEach}
use Rattle.hound_sample.proofs.sample.Sample.read_many.Given as goal

abbrev pub invariant-loop-i : goal.invariant-loop-i
invariant-loop-i g l = record {
  same : length l.samples ≡ length l.fn.samples;
  rest : drop l.i l.samples ≡ drop l.i l.fn.samples;
  each : ReadsEach (g.Self.Sample.rejection l.fmt l.width l.bits) (g.Self.Sample.meaning l.fmt l.width l.bits) l.width
      (map Ok (take l.i l.samples)) (g.R.Read.remaining l.fn.reader) (g.R.Read.remaining l.reader);
  untouched : IsSome (g.Self.Sample.rejection l.fmt l.width l.bits) → l.reader ≡ l.fn.reader;
}
