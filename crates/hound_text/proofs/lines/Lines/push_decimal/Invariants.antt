use Rattle.std.proofs.Common.{◌≡◌, ◌+◌, ◌%◌, ◌^◌, ◌<◌, ◌≤◌, ◌++◌, decimal, drop}
use Rattle.hound_text.proofs.lines.Lines.push_decimal.Given as goal

-- the digits that are left, and those that were made
abbrev pub invariant-loop-number : goal.invariant-loop-number
invariant-loop-number l = record {
  within : l.start ≤ 8;
  even : l.start % 2 ≡ 0;
  small : l.number < 10 ^ (l.start + 2);
  fits : l.number ≤ l.fn.number;
  digits : decimal l.number ++ drop (l.start + 2) l.text ≡ decimal l.fn.number;
}

abbrev pub decreases-loop-number : goal.decreases-loop-number
decreases-loop-number l = l.number
