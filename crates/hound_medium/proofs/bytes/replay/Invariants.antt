use Rattle.std.proofs.Common.{◌≡◌, take}
use Rattle.hound_medium.specs.State.{overlay}
use Rattle.hound_medium.proofs.bytes.replay.Given as goal

abbrev pub invariant-loop-at : goal.invariant-loop-at
invariant-loop-at l = l.bytes.items ≡ overlay l.fn.bytes.items (take l.at-index l.past)
