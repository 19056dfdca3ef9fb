-- What a program has read that follows a recording, by what its follower has counted.
use Rattle.std.proofs.lemmas.Grind.{common_steps}
use Rattle.std.proofs.Common.{◌≡◌, ℕ, ◌+◌, ◌≤◌, List, length, take, drop, sym, ◌∙◌, ap, arith}
use Rattle.std.proofs.lemmas.List.{length-take, length-take-le, take_min}
use Rattle.hound.specs.{IsStored, Recording, after_count, counted_by, greatest_u32, riff_size, whole_bytes}

module _ (r : Recording) (n : ℕ) (none : r.counted ≡ 0) where
  -- a follower that had counted nothing counts no more than the length says
  pub counts_at_most : counted_by (after_count r n).follower ≤ n
  counts_at_most = grind (arith, common_steps)

  -- and all whole frames of it, if it is the length of a file
  pub counts_all : riff_size r.data_start n ≤ greatest_u32
      → counted_by (after_count r n).follower ≡ whole_bytes r.spec_ex n
  counts_all fits = grind (arith, common_steps)

module _ (n counted start : ℕ) (items contents list : List ℕ) (few : counted ≤ n)
    (is : items ≡ take counted (drop start contents))
    (stored : (a len : ℕ) → a + len ≤ n → IsStored start list a len contents) where
  -- what is read of the bytes that are counted are the first ones of those that are stored
  first_bytes : items ≡ take counted list
  first_bytes =
      let zero_more : start ≡ start + 0 = omega arith in
      is ∙ ap (λ p. take counted (drop p contents)) zero_more ∙ stored 0 counted (omega (arith, few))

  pub are_first : items ≡ take (length items) list
  are_first =
      first_bytes ∙ sym (take_min counted list)
      ∙ ap (λ k. take k list) (sym (ap length first_bytes ∙ length-take counted list))

  -- all of them, if so many are stored
  pub are_all : n ≤ length list → length items ≡ counted
  are_all enough = ap length first_bytes ∙ length-take-le counted list (omega (arith, few, enough))
