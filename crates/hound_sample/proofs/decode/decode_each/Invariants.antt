use Rattle.std.proofs.Common.{◌≡◌, length, map, take}
use Rattle.hound_sample.specs.Container.{containers}
use Rattle.hound_sample.proofs.decode.decode_each.Given as goal

abbrev pub invariant-loop-i : goal.invariant-loop-i
invariant-loop-i g l = record {
  same : length l.samples ≡ length l.fn.samples;
  decoded : take l.i l.samples ≡ map (g.S.Decode.value l.fmt l.width l.bits) (containers l.width l.i l.from);
}
