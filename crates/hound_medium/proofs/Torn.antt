-- A number of four bytes inside contents, while another overwrites it.
use Rattle.std.proofs.lemmas.Grind.{common_steps}
use Rattle.std.proofs.Common.{◌≡◌, ℕ, ◌+◌, ◌-◌, ◌<◌, ◌≤◌, ◌^◌, inl, inr, List, ◌++◌, length, take, drop, sym, ◌∙◌, ap, arith, length-drop}
use Rattle.std.proofs.lemmas.List.{drop-drop, length-take-le, get_or-take, get_or-drop, get_or_past}
use Rattle.std.proofs.lemmas.Bool.{cases_lt}
use Rattle.std.proofs.Math.Seq.{take-append-add}
use Rattle.std.proofs.lemmas.Slice.{between_is}
use Rattle.hound_number.specs.{bytes_of, number, mix, AreBytes}
use Rattle.hound_number.proofs.Mixing.{bytes_of-number, number_small}
use Rattle.hound_medium.specs.State.{placed, overlay}
use Rattle.hound_medium.proofs.Inside.{drop_to}

module _ (p : ℕ) (c : List ℕ) (inside : p + 4 ≤ length c) where
  -- the four bytes at p, when a few bytes were written there
  four_bytes : (bytes : List ℕ) → length bytes ≤ 4
      → take 4 (drop p (overlay c (placed p bytes))) ≡ bytes ++ drop (length bytes)
      (take 4 (drop p c))
  four_bytes bytes few =
      let n = 4 - length bytes in
      let all : 4 ≡ length bytes + n = omega (arith, few) in
      ap (take 4) (drop_to c p bytes (omega (arith, few, inside)))
      ∙ ap (λ k. take k (bytes ++ drop (p + length bytes) c)) all
      ∙ take-append-add bytes (drop (p + length bytes) c) n
      ∙ ap (λ (l : List ℕ). bytes ++ take n l) (sym (drop-drop (length bytes) p c))
      ∙ ap (λ (l : List ℕ). bytes ++ l) (between_is (drop p c) (length bytes) 4)

  four : length (take 4 (drop p c)) ≡ 4
  four = length-take-le 4 (drop p c) (omega (arith, inside, length-drop p c))

  module _ (small : AreBytes c) where
    are_bytes : AreBytes (take 4 (drop p c))
    are_bytes i = elim (cases_lt i 4) [
      | inl lt ↦ omega (arith, get_or-take 4 (drop p c) i 0 lt, get_or-drop p c i 0, small (p + i))
      | inr past ↦ omega (arith, get_or_past (take 4 (drop p c)) i 0 (omega (arith, four)))
    ]

    -- the number has 32 bits
    pub number_at_small : number (take 4 (drop p c)) < 2 ^ 32
    number_at_small = number_small (take 4 (drop p c)) four are_bytes

    -- the four bytes are those of their number
    pub bytes_at : bytes_of 4 (number (take 4 (drop p c))) ≡ take 4 (drop p c)
    bytes_at =
        ap (λ n. bytes_of n (number (take 4 (drop p c)))) (sym four)
        ∙ bytes_of-number (take 4 (drop p c)) are_bytes

    -- the number at p, when k bytes of a new one were written over it
    pub number_at_mix : (new k : ℕ) → k ≤ 4
        → number (take 4 (drop p (overlay c (placed p (take k (bytes_of 4 new)))))) ≡ mix k
        (number (take 4 (drop p c))) new
    number_at_mix new k h = grind (arith, common_steps, four_bytes, bytes_at)
