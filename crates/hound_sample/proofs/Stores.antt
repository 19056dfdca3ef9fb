-- Four bytes that are stored into a list, of which the first ones count.
use Rattle.std.proofs.lemmas.Grind.{common_steps}
use Rattle.std.proofs.Common.{◌≡◌, ℕ, ◌+◌, ◌<◌, ◌≤◌, List, [], ◌∷◌, ◌++◌, length, take, slice_index_or, slice_set, refl, sym, ◌∙◌, ap, arith, append_assoc}
use Rattle.std.proofs.lemmas.List.{length-set, length-take-le, take-take, take_more_set}
use Rattle.std.proofs.Math.Seq.{take-append-add}

-- a list of four
all_four : (l : List ℕ) → length l ≡ 4
    → slice_index_or l 0 0 ∷ slice_index_or l 1 0 ∷ slice_index_or l 2 0 ∷ slice_index_or l 3 0 ∷ []
    ≡ l
all_four [] is = absurd (omega (arith, is))
all_four (a ∷ []) is = absurd (omega (arith, is))
all_four (a ∷ b ∷ []) is = absurd (omega (arith, is))
all_four (a ∷ b ∷ c ∷ []) is = absurd (omega (arith, is))
all_four (a ∷ b ∷ c ∷ d ∷ []) is = refl
all_four (a ∷ b ∷ c ∷ d ∷ e ∷ l) is = absurd (omega (arith, is))

-- one more byte
store : (l : List ℕ) (at k byte : ℕ) → at + k < length l
    → take (at + (k + 1)) (slice_set l (at + k) byte) ≡ take (at + k) l ++ byte ∷ []
store l at k byte inside = grind (arith, common_steps)

pub four_stored : (l : List ℕ) (at width : ℕ) (bytes : List ℕ) → length bytes ≡ 4 → at + 4 ≤ length l → width ≤ 4
    → take (at + width)
    (slice_set (slice_set (slice_set (slice_set l at (slice_index_or bytes 0 0)) (at + 1) (slice_index_or bytes 1 0))
    (at + 2) (slice_index_or bytes 2 0)) (at + 3) (slice_index_or bytes 3 0)) ≡ take at l
    ++ take width bytes
four_stored l at width bytes four inside few =
    let a = slice_index_or bytes 0 0 in
    let b = slice_index_or bytes 1 0 in
    let c = slice_index_or bytes 2 0 in
    let d = slice_index_or bytes 3 0 in
    let l1 = slice_set l at a in
    let l2 = slice_set l1 (at + 1) b in
    let l3 = slice_set l2 (at + 2) c in
    let l4 = slice_set l3 (at + 3) d in
    let first : take (at + 1) l1 ≡ take at l ++ a ∷ [] = take_more_set l at a (omega (arith, inside)) in
    let second : take (at + 2) l2 ≡ take at l ++ a ∷ b ∷ [] =
    store l1 at 1 b (omega (arith, inside, length-set l at a)) ∙ ap (λ p. p ++ b ∷ []) first
    ∙ append_assoc (take at l) (a ∷ []) (b ∷ []) in
    let third : take (at + 3) l3 ≡ take at l ++ a ∷ b ∷ c ∷ [] =
    store l2 at 2 c (omega (arith, inside, length-set l at a, length-set l1 (at + 1) b))
    ∙ ap (λ p. p ++ c ∷ []) second ∙ append_assoc (take at l) (a ∷ b ∷ []) (c ∷ []) in
    let fourth : take (at + 4) l4 ≡ take at l ++ a ∷ b ∷ c ∷ d ∷ [] = store l3 at 3 d (omega (
      arith,
      inside,
      length-set l at a,
      length-set l1 (at + 1) b,
      length-set l2 (at + 2) c,
    )) ∙ ap (λ p. p ++ d ∷ []) third
    ∙ append_assoc (take at l) (a ∷ b ∷ c ∷ []) (d ∷ []) in
    let front : length (take at l) ≡ at = length-take-le at l (omega (arith, inside)) in
    sym (take-take (at + width) (at + 4) l4 (omega (arith, few)))
    ∙ ap (take (at + width)) (fourth ∙ ap (λ p. take at l ++ p) (all_four bytes four))
    ∙ ap (λ n. take (n + width) (take at l ++ bytes)) (sym front)
    ∙ take-append-add (take at l) bytes width
