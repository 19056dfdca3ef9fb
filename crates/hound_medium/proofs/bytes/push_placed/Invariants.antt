use Rattle.std.proofs.Common.{◌≡◌, ◌+◌, ◌-◌, ◌≤◌, ◌++◌, length, take, vec_len, vec_capacity}
use Rattle.hound_medium.specs.State.{placed}
use Rattle.hound_medium.proofs.bytes.push_placed.Given as goal

abbrev pub invariant-loop-i : goal.invariant-loop-i
invariant-loop-i l = record {
  so_far : l.past.items ≡ l.fn.past.items ++ placed l.at (take l.i l.new);
  room : vec_len l.past + (length l.new - l.i) ≤ vec_capacity l.past;
}
