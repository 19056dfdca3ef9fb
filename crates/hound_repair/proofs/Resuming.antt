-- What is held while the data length of a repair is written.
use Rattle.std.proofs.lemmas.Grind.{common_steps}
use Rattle.std.proofs.Common.{◌≡◌, ℕ, ◌+◌, ◌*◌, ◌/◌, ◌≤◌, List, inl, inr, sym, ap, ◌∙◌, arith, take-append-drop}
use Rattle.std.proofs.lemmas.Nat.{div-add-mod', div-mul-add}
use Rattle.hound_number.specs.{bytes_of, mix, number}
use Rattle.hound_spec.proofs.FmtLemmas.{number-bytes_of}
use Rattle.hound_spec.specs.{greatest_u32}
use Rattle.hound_repair.specs.Held.{data_held, ends_with_pad, held, shown_length}
use Rattle.hound_repair.proofs.Again.{by_last, held_cases}

-- a number whose low byte is written has that byte, so it isn't one less
mix_low : (k old n : ℕ) → 1 ≤ k → mix k old n + 1 ≡ n → ⊥
mix_low k old n some is = grind (arith, common_steps)

-- a number that is written over itself stays
same_mix : (a j : ℕ) → a ≤ greatest_u32 → mix j a a ≡ a
same_mix a j fits = ap number (take-append-drop j (bytes_of 4 a)) ∙ number-bytes_of 4 a (omega (arith, fits))

-- where a frame has more than one byte, the frames held don't depend on the data length
frames_of_two : (f len n : ℕ) → 2 ≤ f → data_held f len n / f ≡ n / f
unfolding data_held ends_with_pad
frames_of_two f len n two = grind (arith, common_steps, div-add-mod', div-mul-add)

-- nor do they change while the right length is written over a data length
frames_half : (f len n k : ℕ) → 1 ≤ f → len ≤ greatest_u32
    → data_held f (mix k len (data_held f len n / f * f)) n / f ≡ data_held f len n / f
frames_half f len n k some small =
    grind (arith, common_steps, held_cases, frames_of_two, mix_low, same_mix, number-bytes_of, div-add-mod')

-- nor does a byte after them that is no pad byte
pub frames_shown : (f start len k : ℕ) (c : List ℕ) → 1 ≤ f → len ≤ greatest_u32 → data_held f (shown_length start
    (mix k len (data_held f (shown_length start len c) (held start c) / f * f)) c) (held start c) / f
    ≡ data_held f (shown_length start len c) (held start c) / f
frames_shown f start len k c some small = elim (by_last start c) [
  | inl shown ↦ let half = frames_half f len (held start c) k some small in
      let now = shown (mix k len (data_held f len (held start c) / f * f)) in
      let before = shown len in
      cc (half, now, before)
  | inr every ↦ ap (λ n. n / f) (every f _ ∙ sym (every f len))
]
