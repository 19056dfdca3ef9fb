use Rattle.std.proofs.Common.{◌≡◌, ◌+◌, ◌≤◌, ◌++◌, length}
use Rattle.hound_text.specs.Text.{lines_capacity, padded_digits}
use Rattle.hound_text.proofs.lines.Lines.push_pattern.Given as goal

-- the digits so far, and those that are left
abbrev pub invariant-loop-place : goal.invariant-loop-place
invariant-loop-place l = record {
  within : l.place ≤ 8;
  room : length l.self + l.place + 16 ≤ lines_capacity;
  digits : l.self ++ padded_digits 16 l.place l.pattern ≡ l.fn.self ++ padded_digits 16 8 l.pattern;
}

abbrev pub decreases-loop-place : goal.decreases-loop-place
decreases-loop-place l = l.place
