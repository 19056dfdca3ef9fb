-- Bytes written inside contents, over older bytes.
use Rattle.std.proofs.Common.{◌≡◌, ℕ, ◌+◌, ◌-◌, ◌≤◌, List, ◌++◌, length, take, drop, sym, ◌∙◌, ap, arith, append_assoc, length-append}
use Rattle.std.proofs.lemmas.List.{drop_at, drop-drop, length-take-le}
use Rattle.hound_medium.specs.State.{placed, overlay}
use Rattle.hound_medium.proofs.Overlays.{overlay_is}

module _ (c : List ℕ) (at : ℕ) (bs : List ℕ) (inside : at + length bs ≤ length c) where
  new : List ℕ
  new = overlay c (placed at bs)

  parts : new ≡ take at c ++ (bs ++ drop (at + length bs) c)
  unfolding new
  parts = overlay_is c at bs (omega (arith, inside))

  front : length (take at c) ≡ at
  front = length-take-le at c (omega (arith, inside))

  -- what was after them stays
  pub drop_beyond : (n : ℕ) → at + length bs ≤ n → drop n (overlay c (placed at bs)) ≡ drop n c
  unfolding new
  drop_beyond n h =
      let m = n - (at + length bs) in
      let e : n ≡ at + length bs + m = omega arith in
      let all : new ≡ (take at c ++ bs) ++ drop (at + length bs) c =
      parts ∙ sym (append_assoc (take at c) bs (drop (at + length bs) c)) in
      let size : length (take at c ++ bs) ≡ at + length bs =
      length-append (take at c) bs ∙ ap (λ k. k + length bs) front in
      ap (drop n) all
      ∙ ap (λ k. drop k ((take at c ++ bs) ++ drop (at + length bs) c)) e
      ∙ sym (drop-drop m (at + length bs) ((take at c ++ bs) ++ drop (at + length bs) c))
      ∙ ap (drop m) (drop_at (take at c ++ bs) (drop (at + length bs) c) (at + length bs) size)
      ∙ drop-drop m (at + length bs) c
      ∙ ap (λ k. drop k c) (sym e)

  -- from their place on: the bytes, and what was after them
  pub drop_to : drop at (overlay c (placed at bs)) ≡ bs ++ drop (at + length bs) c
  unfolding new
  drop_to = ap (drop at) parts ∙ drop_at (take at c) (bs ++ drop (at + length bs) c) at front
