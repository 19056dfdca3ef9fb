-- Bytes written after all that isn't flushed continue the ascending order.
use Rattle.std.proofs.lemmas.Grind.{common_steps}
use Rattle.std.proofs.Common.{◌≡◌, ℕ, zero, suc, ◌+◌, ◌-◌, ◌<◌, ◌≤◌, List, [], ◌∷◌, ◌++◌, length, ◌∙◌, arith, length-append}
use Rattle.std.proofs.lemmas.Bool.{cases_lt}
use Rattle.std.proofs.Math.Seq.{get_or-append_right}
use Rattle.hound_medium.specs.{placed}
use Rattle.hound_medium.proofs.Overlays.{length-placed}
use Rattle.hound_durable.specs.Losses.{place_of, Ascends, IsBelow}

-- each of the bytes of one put went to the next place
pub place_placed : (at : ℕ) (bytes : List ℕ) (j : ℕ) → j < length bytes → place_of (placed at bytes) j ≡ at + j
place_placed at [] j few = absurd (omega (arith, few))
place_placed at (b ∷ bytes) zero few = omega arith
place_placed at (b ∷ bytes) (suc j) few =
    place_placed (suc at) bytes j (omega (arith, few)) ∙ omega arith

-- the place of a byte that was written before
pub place_before : (past added : List (ℕ × ℕ)) (i : ℕ) → i < length past → place_of (past ++ added) i ≡ place_of past i
place_before past added i before = grind (arith, common_steps)

-- the place of a byte of the last call of `put`
pub place_after : (past : List (ℕ × ℕ)) (at : ℕ) (bytes : List ℕ) (i : ℕ) → length past ≤ i
    → i < length past + length bytes
    → place_of (past ++ placed at bytes) i ≡ at + (i - length past)
place_after past at bytes i from to = grind (arith, common_steps, get_or-append_right, place_placed)

pub length_put : (past : List (ℕ × ℕ)) (at : ℕ) (bytes : List ℕ)
    → length (past ++ placed at bytes) ≡ length past + length bytes
length_put past at bytes = grind (arith, common_steps, length-append, length-placed)

module _ (past : List (ℕ × ℕ)) (at end f : ℕ) (bytes : List ℕ) (below : IsBelow end past f) (after : end ≤ at) where
  pub below_more : IsBelow (at + length bytes) (past ++ placed at bytes) f
  below_more i from to = grind (arith, common_steps, cases_lt, place_before, place_after, length_put)

  pub ascends_more : Ascends past f (length past)
      → Ascends (past ++ placed at bytes) f (length (past ++ placed at bytes))
  ascends_more ascends i j from less to =
      grind (arith, common_steps, cases_lt, place_before, place_after, length_put)
