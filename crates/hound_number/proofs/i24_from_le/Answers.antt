use Rattle.std.proofs.lemmas.Grind.{common_steps}
use Rattle.std.proofs.Common.{rules, arith, ◌≡◌, ◌<◌, ◌≤◌, ◌+◌, ◌*◌, ℕ, pos, to_z, of_z, ◌+ℤ◌, ◌*ℤ◌, ◌-ℤ◌, ap, ◌∙◌, slice_index_or, length, List, [], ◌∷◌}
use mir.Syntax.{w16, w32}
use Rattle.std.proofs.lemmas.Bool.{cases_lt}
use Rattle.hound_number.specs.Number.{signed_number, signed_of}
use Rattle.hound_number.proofs.i24_from_le.Goals as goal

-- a number whose upper two bytes are not negative, and one whose upper bytes are
low_half : (l h : ℕ) → l < 256 → h < 32768 → pos h *ℤ pos 256 +ℤ pos l ≡ signed_of 3 (l + h * 256)
low_half l h small low = search rules

high_half : (l h : ℕ) → l < 256 → 32768 ≤ h → h < 65536
    → (pos h -ℤ pos 65536) *ℤ pos 256 +ℤ pos l ≡ signed_of 3 (l + h * 256)
high_half l h small high fits = search rules

-- the sign of the upper bytes is that of the number
signed_upper : (l h : ℕ) → l < 256 → h < 65536 → signed_of 2 h *ℤ pos 256 +ℤ pos l ≡ signed_of 3 (l + h * 256)
signed_upper l h small fits = grind (arith, common_steps, cases_lt, low_half, high_half)

-- the number of three bytes, by its lowest one and the upper two
whole : (bytes : List ℕ) → length bytes ≡ 3
    → signed_of 3 (slice_index_or bytes 0 0
    + (slice_index_or bytes 1 0 + 256 * (slice_index_or bytes 2 0 + 256 * 0)) * 256)
    ≡ signed_number bytes
whole [] is = absurd (let no : ⊥ = omega (arith, is) in no)
whole (a ∷ []) is = absurd (let no : ⊥ = omega (arith, is) in no)
whole (a ∷ b ∷ []) is = absurd (let no : ⊥ = omega (arith, is) in no)
whole (a ∷ b ∷ d ∷ []) is =
    let e : a + (b + 256 * (d + 256 * 0)) * 256 ≡ a + 256 * (b + 256 * (d + 256 * 0)) = omega arith in
    ap (signed_of 3) e
whole (a ∷ b ∷ d ∷ e ∷ bytes) is = absurd (let no : ⊥ = omega (arith, is) in no)

pub returns : goal.returns
returns c =
    let b0 = slice_index_or c.args.bytes 0 0 in
    let upper = slice_index_or c.args.bytes 1 0 + 256 * (slice_index_or c.args.bytes 2 0 + 256 * 0) in
    let s = c.i16_from_le.result in
    let three : length c.args.bytes ≡ 3 = search rules in
    let b1 : slice_index_or c.args.bytes 1 0 < 256 = search rules in
    let b2 : slice_index_or c.args.bytes 2 0 < 256 = search rules in
    let below : upper < 65536 = omega arith in
    let sum : to_z w32 (of_z w32 (to_z w32 (of_z w32 (to_z w32 (of_z w32 (to_z w16 (of_z w16 s))) *ℤ pos 256))
    +ℤ to_z w32 b0)) ≡ s *ℤ pos 256 +ℤ pos b0 = search rules in
    sum ∙ ap (λ z. z *ℤ pos 256 +ℤ pos b0) c.i16_from_le.ensures
    ∙ signed_upper b0 upper (omega (arith, c.element_fits)) below
    ∙ whole c.args.bytes three
