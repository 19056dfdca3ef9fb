-- A number of four bytes that are taken one by one, the last one first.
use Rattle.std.proofs.Common.{◌≡◌, ℕ, zero, suc, ◌+◌, ◌-◌, ◌*◌, ◌^◌, ◌≤◌, ◌<◌, arith}

module _ (above byte : ℕ) (one : byte < 256) where
  -- with the byte before them they fit in 32 bits
  pub fits : (n : ℕ) → n ≤ 3 → above < 256 ^ (3 - n) → above * 256 + byte < 2 ^ 32
  fits zero few small = omega (arith, small, one)
  fits (suc zero) few small = omega (arith, small, one)
  fits (suc (suc zero)) few small = omega (arith, small, one)
  fits (suc (suc (suc zero))) few small = omega (arith, small, one)
  fits (suc (suc (suc (suc n)))) few small = absurd (omega (arith, few))

  -- and are less than the next power of 256
  pub one_more : (n : ℕ) → (n ≡ 0 → ⊥) → n ≤ 3 → above < 256 ^ (3 - n) → above * 256 + byte < 256 ^ (3 - (n - 1))
  one_more zero other few small = absurd (omega (arith, other))
  one_more (suc zero) other few small = omega (arith, small, one)
  one_more (suc (suc zero)) other few small = omega (arith, small, one)
  one_more (suc (suc (suc zero))) other few small = omega (arith, small, one)
  one_more (suc (suc (suc (suc n)))) other few small = absurd (omega (arith, few))
