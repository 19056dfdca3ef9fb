use Rattle.std.proofs.Common.{◌≡◌, ◌≤◌, ◌*◌, drop, length, map, not, take}
use Rattle.std.specs.List.{count_by}
use Rattle.hound_sample.specs.Container.{fits, int_container, joined_containers}
use Rattle.hound_sample.specs.Scale.{state_after, with_noise, scaled, scaled_to}
use Rattle.hound_sample.proofs.amplitude.scale_each_with_noise.Given as goal

abbrev pub invariant-loop-i : goal.invariant-loop-i
invariant-loop-i g l = record {
  size : length l.bytes ≡ length l.fn.bytes;
  state : l.next ≡ state_after l.i l.fn.state;
  left : drop l.i (with_noise g.S.Amplitude.amplitude l.bits l.fn.state l.amplitudes)
      ≡ with_noise g.S.Amplitude.amplitude l.bits l.next (drop l.i l.amplitudes);
  stored : take (l.i * l.width) l.bytes ≡ joined_containers (λ v. int_container v l.bits l.width)
      (map (scaled_to l.bits) (take l.i (with_noise g.S.Amplitude.amplitude l.bits l.fn.state l.amplitudes)));
  count : l.count ≡ count_by (λ x. not (fits l.bits (scaled l.bits x)))
      (take l.i (with_noise g.S.Amplitude.amplitude l.bits l.fn.state l.amplitudes));
  few : l.count ≤ l.i;
}
