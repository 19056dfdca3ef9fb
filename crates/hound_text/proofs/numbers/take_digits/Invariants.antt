use Rattle.std.proofs.Common.{◌≡◌, ◌<◌, ◌⊎◌, ◌++◌, length, List, ℕ}
use Rattle.hound_text.specs.Text.{numbers_from}
use Rattle.hound_text.specs.declared.numbers.Place.TheVariants.{Inside}
use Rattle.hound_text.proofs.numbers.take_digits.Given as goal

-- the digits so far have led here
abbrev pub invariant-loop-byte : goal.invariant-loop-byte
invariant-loop-byte l = record {
  led : (tail : List ℕ) → numbers_from l.fn.place (l.fn.bytes ++ tail)
      ≡ numbers_from (Inside l.is_negative l.magnitude) (l.bytes ++ tail);
  some : (l.bytes ≡ l.fn.bytes) ⊎ (length l.bytes < length l.fn.bytes);
}

abbrev pub decreases-loop-byte : goal.decreases-loop-byte
decreases-loop-byte l = length l.bytes
