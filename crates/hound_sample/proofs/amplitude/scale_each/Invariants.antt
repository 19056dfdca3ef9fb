use Rattle.std.proofs.Common.{◌≡◌, ◌≤◌, ◌*◌, length, map, not, take}
use Rattle.std.specs.List.{count_by}
use Rattle.hound_sample.specs.Container.{fits, int_container, joined_containers}
use Rattle.hound_sample.specs.Scale.{scaled, scaled_to}
use Rattle.hound_sample.proofs.amplitude.scale_each.Given as goal

abbrev pub invariant-loop-i : goal.invariant-loop-i
invariant-loop-i g l = record {
  size : length l.bytes ≡ length l.fn.bytes;
  stored : take (l.i * l.width) l.bytes ≡ joined_containers (λ v. int_container v l.bits l.width)
      (map (λ x. scaled_to l.bits (g.S.Amplitude.amplitude x)) (take l.i l.amplitudes));
  count : l.count ≡ count_by (λ x. not (fits l.bits (scaled l.bits (g.S.Amplitude.amplitude x))))
      (take l.i l.amplitudes);
  few : l.count ≤ l.i;
}
