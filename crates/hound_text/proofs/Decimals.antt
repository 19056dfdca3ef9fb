-- The digits of a number, two at a time.
use Rattle.std.proofs.lemmas.Grind.{common_steps}
use Rattle.std.proofs.Common.{◌≡◌, ℕ, zero, suc, ◌+◌, ◌-◌, ◌*◌, ◌/◌, ◌%◌, ◌^◌, ◌<◌, ◌≤◌, nat_lt, List, [], ◌∷◌, ◌++◌, length, take, drop, drop-drop, drop_at, length-take-le, inl, inr, append_assoc, refl, ap, sym, ◌∙◌, arith}
use Rattle.std.proofs.lemmas.Bool.{cases_lt, lt-ltb, le-ltb}
use Rattle.std.proofs.lemmas.Fmt.{decimal_digit, decimal_step}
use Rattle.std.proofs.lemmas.Nat.{pow-add}
use Rattle.std.specs.Fmt.{decimal}
use Rattle.hound_text.specs.declared.lines.TheConstants.{PAIRS}
use borrow.Rule.Slice.PartMut.{put_mid}
use mir.Val.{bool_byte}

-- the two digits of a number below 100
abbrev pub pair : ℕ → List ℕ
pair n = (48 + n / 10) ∷ (48 + n % 10) ∷ []

-- the pairs of so many numbers, from one on
abbrev pairs_from : ℕ → ℕ → List ℕ
pairs_from zero n = []
pairs_from (suc k) n = pair n ++ pairs_from k (suc n)

pair_of : (i k n : ℕ) → i < k → take 2 (drop (2 * i) (pairs_from k n)) ≡ pair (i + n)
pair_of i zero n within = absurd (omega (arith, within))
pair_of zero (suc k) n within = ap pair (omega arith)
pair_of (suc i) (suc k) n within =
    let next : 2 * suc i ≡ suc (suc (2 * i)) = omega arith in
    ap (λ m. take 2 (drop m (pairs_from (suc k) n))) next ∙ pair_of i k (suc n) (omega (arith, within))
    ∙ ap pair (omega arith)

-- the digits of a number below 100 were copied from the table
pub pair-copied : (n start : ℕ) (text new : List ℕ) → n < 100 → start ≤ length text
    → new ≡ take (2 * n + 2 - 2 * n) (drop (2 * n) PAIRS)
    → drop start (put_mid start (start + 2 - start) text new) ≡ pair n ++ drop (start + 2) text
pair-copied n start text new small within copied =
    let two : 2 * n + 2 - 2 * n ≡ 2 = omega arith in
    let next : start + 2 - start ≡ 2 = omega arith in
    drop_at (take start text) _ start (length-take-le start text within)
    ∙ ap (λ l. l ++ drop (start + 2 - start) (drop start text))
    (copied ∙ ap (λ m. take m (drop (2 * n) PAIRS)) two ∙ pair_of n 100 0 small ∙ ap pair (omega arith))
    ∙ ap (λ l. pair n ++ l) (drop-drop (start + 2 - start) start text ∙ ap (λ m. drop (start + m) text) next)

-- the digits of a number below 100, without a zero before one digit
pub decimal_small : (n : ℕ) (tail : List ℕ) → n < 100
    → drop (bool_byte (nat_lt n 10)) (pair n ++ tail) ≡ decimal n ++ tail
decimal_small n tail small =
    elim (cases_lt n 10) [
      | inl few ↦ ap (λ b. drop (bool_byte b) (pair n ++ tail)) (lt-ltb n 10 few)
          ∙ ap (λ d. (48 + d) ∷ tail) (omega (arith, few)) ∙ ap (λ l. l ++ tail) (sym (decimal_digit n few))
      | inr many ↦ ap (λ b. drop (bool_byte b) (pair n ++ tail)) (le-ltb n 10 many)
          ∙ ap (λ l. l ++ (48 + n % 10) ∷ tail) (sym (decimal_digit (n / 10) (omega (arith, small))))
          ∙ rw (decimal_step n many (omega (arith, small)), append_assoc)
    ]

-- of a number with more digits: those of its hundredth, and the last two
pub decimal_more : (n : ℕ) → 100 ≤ n → n < 2 ^ 64 → decimal n ≡ decimal (n / 100) ++ pair (n % 100)
decimal_more n many small = grind (arith, common_steps, decimal_step)

-- four bits are a digit in base 16
pub sixteen-pow : (k : ℕ) → 2 ^ (4 * k) ≡ 16 ^ k
sixteen-pow zero = refl
sixteen-pow (suc k) =
    let four : 4 * suc k ≡ 4 * k + 4 = omega arith in
    let one : k + 1 ≡ suc k = omega arith in
    ap (λ n. 2 ^ n) four ∙ pow-add 2 (4 * k) 4 ∙ ap (λ n. n * 16) (sixteen-pow k)
    ∙ sym (pow-add 16 k 1) ∙ ap (λ n. 16 ^ n) one
