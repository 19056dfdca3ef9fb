-- Floats that are whole numbers, and the signs of those that are rounded.
use mathlib.Core.Path.{◌≡◌, refl, sym, ap, ◌∙◌, subst}
use mathlib.Core.Bool.{Bool, true, false, cond, not, ◌&&◌, true≢false}
use Prim.Native.Nat.{ℕ, zero, suc, ◌+◌, ◌-◌, ◌*◌, ◌/◌, ◌%◌, ◌^◌, ◌≤◌, ◌<◌, compare, min, Ordering}
use Prim.Native.Nat.compare
use native.Mathlib.Nat.{add-mul, div-add-mod', div-eq_of_lt-le, div-lt_iff_lt-mul, eq_of_mul-eq-mul_right, le-div_iff_mul-le, lt_of_le_of_lt, lt_of_lt_of_le, lt_of_mul-lt-mul_right, lt_of_not-le, mod-lt, mul-div_cancel, mul-le-mul_right, mul-lt-mul_of_pos_right, mul-mod_left, mul-one, mul-pos, not-le_of_lt}
use native.Mathlib.Omega.{arith}
use lib.Dec.{T, eqb, ltb, ltb→lt, lit≤}
use Rattle.std.proofs.lemmas.Bool.{eqb-true}
use lib.IntN.{ℤ, pos, negsuc, nat_abs, neg_ℤ, ◌+ℤ◌, ◌-ℤ◌}
use mir.Facts.{to_z-of_z}
use Rattle.std.proofs.Common.{[], ◌∷◌, FitsSigned, of_z, slice_index_or, to_z, w32, w64}
use mir.Val.{bool_byte}
use lib.Pow.{pow-add, pow-lt, pow_mono, pow_pos, shl_lt}
use lib.Signed.{lt_z}
use borrow.Author.Differences.{ints, neg_is, same_in, sum_is_lem}
use borrow.Author.Tests.{le-leb, lt-ltb, ltb-false, ltb-true}
use lib.Ieee.{Float, Format, binary32, binary64, nan, inf, fin, prec, low, emax, up, down, odd, size, nearest, units, round, sum, add, neg, mul, div, unlike, below, lt, of_bits, of_int, in_signed, to_signed, whole}
use lib.Ieee.Digits.{size-le, size-lt}
use lib.Ieee.Exact.{HasValue, round_exact, units_val}
use lib.Ieee.Fits.{core, down_pos, nearest-le, reach, round_is}
use lib.Ieee.Nearest.{closest, closest_same}
use Rattle.std.specs.Float.{round_ties_even, round_with}
use Rattle.hound_sample.specs.Container.{fits}
use Rattle.hound_sample.specs.Scale.{ComesBack, clipped, double_of_int, float_of_int, scaled}

neg-odd : (d q k l : ℕ) → neg (odd d false q k l) ≡ odd d true q k l
unfolding neg odd
neg-odd d zero k l = refl
neg-odd d (suc q) k l = refl

neg-units : (f : Format) (q k : ℕ) → neg (units f false q k) ≡ units f true q k
unfolding units neg
neg-units f q k = by (ltb (q * 2 ^ k) (2 ^ (low f + suc (emax f))))
  where
    by : (b : Bool) → neg (cond b (odd (suc (prec f)) false q k (low f)) (inf false))
        ≡ cond b (odd (suc (prec f)) true q k (low f)) (inf true)
    by true = neg-odd (suc (prec f)) q k (low f)
    by false = refl

-- a negative integer as a float: its size as one, negated
of_negative : (f : Format) (z : ℤ) → lt_z z (pos 0) ≡ true → neg (of_int f (pos (nat_abs z))) ≡ of_int f z
unfolding of_int
of_negative f (pos n) h = absurd (omega (arith, ints))
of_negative f (negsuc n) h =
    ap neg (round_is f false (suc n) 1) ∙ neg-units f _ _ ∙ sym (round_is f true (suc n) 1)

-- the same where it isn't negative
of_positive : (f : Format) (z : ℤ) → lt_z z (pos 0) ≡ false → of_int f (pos (nat_abs z)) ≡ of_int f z
of_positive f (pos n) h = refl
of_positive f (negsuc n) h = absurd (true≢false h)

-- the sign of a product is that of either
unlike-not : (s t : Bool) → unlike s (not t) ≡ unlike (not s) t
unlike-not true true = refl
unlike-not true false = refl
unlike-not false true = refl
unlike-not false false = refl

mul-neg : (f : Format) (x y : Float) → mul f x (neg y) ≡ mul f (neg x) y
unfolding mul neg
mul-neg f nan y = refl
mul-neg f (inf s) nan = refl
mul-neg f (inf s) (inf t) = ap inf (unlike-not s t)
mul-neg f (inf s) (fin t n d) = ap (λ u. cond (eqb n 0) nan (inf u)) (unlike-not s t)
mul-neg f (fin s m e) nan = refl
mul-neg f (fin s m e) (inf t) = ap (λ u. cond (eqb m 0) nan (inf u)) (unlike-not s t)
mul-neg f (fin s m e) (fin t n d) = ap (λ u. round f u (m * up e * (n * up d)) (down e * down d)) (unlike-not s t)

-- the size of an integer times a factor, whose sign is looked up, is the integer times the factor
pub signed_product : (f : Format) (z : ℤ) (y : Float)
    → mul f (of_int f (pos (nat_abs z))) (slice_index_or (y ∷ neg y ∷ []) (bool_byte (lt_z z (pos 0))) nan)
    ≡ mul f (of_int f z) y
signed_product f z y = by (lt_z z (pos 0)) refl
  where
    by : (b : Bool) → lt_z z (pos 0) ≡ b
        → mul f (of_int f (pos (nat_abs z))) (slice_index_or (y ∷ neg y ∷ []) (bool_byte b) nan) ≡ mul f (of_int f z) y
    by true h = mul-neg f (of_int f (pos (nat_abs z))) y ∙ ap (λ x. mul f x y) (of_negative f z h)
    by false h = ap (λ x. mul f x y) (of_positive f z h)

-- a float that is a whole number n, of sign s: without a sign its cast loses nothing, and it is n with that sign
abbrev Whole : Float → Bool → ℕ → Type 0
Whole r s n = (s ≡ false → T (in_signed binary64 63 r)) × (to_signed 63 r ≡ cond s (neg_ℤ (pos n)) (pos n))

whole_of : (r : Float) (s : Bool) (n : ℕ) → HasValue r s n 1 → n ≤ 2 ^ 53 → Whole r s n
unfolding in_signed whole to_signed
whole_of nan s n v h = absurd v
whole_of (inf t) s n v h = absurd v
whole_of (fin t m e) s n v h =
    let is : m * up e ≡ n * down e = sym (mul-one (m * up e)) ∙ v.1 in
    let quotient : m * up e / down e ≡ n = ap (λ k. k / down e) is ∙ mul-div_cancel n (down_pos e) in
    let rest : m * up e % down e ≡ 0 = ap (λ k. k % down e) is ∙ mul-mod_left n (down e) in (
      λ positive. rw (v.0 ∙ positive, rest, quotient, le-leb n (2 ^ 53) (omega arith), lt-ltb n (2 ^ 63) (omega arith))
          tt,
      rw (v.0, quotient) (by s),
    )
  where
    by : (s : Bool) → cond s (neg_ℤ (pos (min n (2 ^ 63)))) (pos (min n (2 ^ 63 - 1))) ≡ cond s (neg_ℤ (pos n)) (pos n)
    by true = ap (λ k. neg_ℤ (pos k)) (omega arith)
    by false = ap pos (omega arith)

-- a whole number is a float of 64 bits itself
exact : (s : Bool) (n : ℕ) → n ≤ 2 ^ 52 → HasValue (round binary64 s n 1) s n 1
exact s n h =
    let small : n < 2 ^ 53 = omega arith in
    let fine : n * 2 ^ low binary64 < 2 ^ (low binary64 + suc (emax binary64)) =
    lt_of_lt_of_le (shl_lt 53 (low binary64) small)
    (pow_mono {i = 53 + low binary64} {j = low binary64 + suc (emax binary64)} (lit≤ (tt {0}))) in
    round_exact binary64 s n 1 n (low binary64) (lit≤ tt) small fine (sym (mul-one (n * 2 ^ low binary64)))

rounded : (s : Bool) (n : ℕ) → n ≤ 2 ^ 52 → Whole (round binary64 s n 1) s n
rounded s n h = whole_of (round binary64 s n 1) s n (exact s n h) (omega (arith, h))

-- ---- the whole number that is nearest to a float, by a sum where floats are 1 apart

size-gt : (n j : ℕ) → 2 ^ j ≤ n → j < size n
size-gt n j h = lt_of_not-le (λ (g : size n ≤ j). not-le_of_lt (lt_of_lt_of_le (size-lt n) (pow_mono g)) h)

-- a fraction from 2^52 to 2^53 is rounded to the nearest whole number
spaced : (a d c : ℕ) → 0 < d → 2 ^ 52 * d ≤ a → a < 2 ^ 53 * d → closest a d ≡ c → c ≤ 2 ^ 53
    → HasValue (round binary64 false a d) false c 1
spaced a d c some lo hi is most =
    let L = 2 ^ 1074 in
    let lo' : 2 ^ (52 + 1074) * d ≤ a * L = omega (arith, mul-le-mul_right L lo) in
    let hi' : a * L < 2 ^ (53 + 1074) * d = omega (arith, mul-lt-mul_of_pos_right hi (pow_pos 1074)) in
    let k : size (a * L / d) - 53 ≡ 1074 = omega (
      arith,
      size-gt (a * L / d) (52 + 1074) ((le-div_iff_mul-le some).1 lo'),
      size-le (a * L / d) (53 + 1074) ((div-lt_iff_lt-mul some).1 hi'),
    ) in
    let kept : closest (a * L) (d * L) ≡ c = closest_same (a * L) (d * L) a d (mul-pos some (pow_pos 1074)) some
    (omega arith) ∙ is in
    let y : round binary64 false a d ≡ units binary64 false c 1074 = round_is binary64 false a d
    ∙ ap (core binary64 false (a * L) d) k ∙ ap (λ (q : ℕ). units binary64 false q 1074) kept in
    scaled_down (round binary64 false a d) c L (pow_pos 1074)
    (subst (λ (z : Float). HasValue z false (c * L) L) (sym y)
    (units_val binary64 false c 1074 (lt_of_le_of_lt (mul-le-mul_right L most) (ltb→lt _ _ tt))))
  where
    scaled_down : (z : Float) (n l : ℕ) → 0 < l → HasValue z false (n * l) l → HasValue z false n 1
    scaled_down nan n l p v = absurd v
    scaled_down (inf s) n l p v = absurd v
    scaled_down (fin s m e) n l p v = (v.0, eq_of_mul-eq-mul_right l p (m * up e * 1) (n * down e) (omega (arith, v.1)))

-- ---- the order of two numbers

compare-lt : (a b : ℕ) → a < b → compare a b ≡ Ordering.lt
compare-lt zero (suc b) h = compare.zero-suc b
compare-lt (suc a) (suc b) h = compare.suc-suc a b ∙ compare-lt a b (omega arith)
compare-lt a zero h = absurd (omega arith)

compare-gt : (a b : ℕ) → b < a → compare a b ≡ Ordering.gt
compare-gt (suc a) zero h = compare.suc-zero a
compare-gt (suc a) (suc b) h = compare.suc-suc a b ∙ compare-gt a b (omega arith)
compare-gt zero b h = absurd (omega arith)

compare-eq : (a b : ℕ) → a ≡ b → compare a b ≡ Ordering.eq
compare-eq zero zero h = compare.zero-zero
compare-eq (suc a) (suc b) h = compare.suc-suc a b ∙ compare-eq a b (omega arith)
compare-eq zero (suc b) h = absurd (omega arith)
compare-eq (suc a) zero h = absurd (omega arith)

-- ---- a whole number and a fraction, or less a fraction

-- the nearest to a fraction by its quotient and its rest
by_parts : (n d q r : ℕ) → n ≡ q * d + r → r < d → closest n d ≡ nearest q (compare (r * 2) d)
by_parts n d q r is less =
    let quotient : n / d ≡ q = div-eq_of_lt-le {k = q} d (omega (arith, is)) (omega (arith, is)) in
    let whole : n / d * d ≡ q * d = ap (λ k. k * d) quotient in
    let rest : n % d ≡ r = omega (arith, div-add-mod' n d, is) in
    (λ i. nearest (quotient i) (compare (rest i * 2) d))

-- an even number less a fraction is rounded to that number less the fraction rounded
turned : (h q r d : ℕ) → 0 < r → r < d → q < 2 * h
    → nearest (2 * h - q - 1) (compare ((d - r) * 2) d) ≡ 2 * h - nearest q (compare (r * 2) d)
turned h q r d some less most = by (ltb (r * 2) d) (ltb d (r * 2)) refl refl
  where
    by : (b c : Bool) → ltb (r * 2) d ≡ b → ltb d (r * 2) ≡ c
        → nearest (2 * h - q - 1) (compare ((d - r) * 2) d) ≡ 2 * h - nearest q (compare (r * 2) d)
    by true c is also =
        let l = ltb-true _ _ is in
        let same : suc (2 * h - q - 1) ≡ 2 * h - q = omega (arith, most) in
        (λ i. nearest (2 * h - q - 1) (compare-gt ((d - r) * 2) d (omega (arith, l)) i))
        ∙ same
        ∙ (λ i. 2 * h - nearest q (sym (compare-lt (r * 2) d l) i))
    by false true is also =
        let l = ltb-true _ _ also in
        let same : 2 * h - q - 1 ≡ 2 * h - suc q = omega (arith, most) in
        (λ i. nearest (2 * h - q - 1) (compare-lt ((d - r) * 2) d (omega (arith, l)) i))
        ∙ same
        ∙ (λ i. 2 * h - nearest q (sym (compare-gt (r * 2) d l) i))
    by false false is also =
        let l = ltb-false _ _ is in
        let k = ltb-false _ _ also in
        let same : 2 * h - q - 1 + (2 * h - q - 1) % 2 ≡ 2 * h - (q + q % 2) = omega (arith, most) in
        (λ i. nearest (2 * h - q - 1) (compare-eq ((d - r) * 2) d (omega (arith, l, k)) i))
        ∙ same
        ∙ (λ i. 2 * h - nearest q (sym (compare-eq (r * 2) d (omega (arith, l, k))) i))

parts_of : (a d : ℕ) → 0 < d → (a ≡ a / d * d + a % d) × (a % d < d)
parts_of a d some = (sym (div-add-mod' a d), mod-lt a some)

mirrored : (h a d : ℕ) → 0 < d → a < 2 * h * d → closest (2 * h * d - a) d ≡ 2 * h - closest a d
mirrored h a d some less = by (a / d) (a % d) (parts_of a d some).0 (parts_of a d some).1
    ((div-lt_iff_lt-mul some).1 less)
  where
    by : (q r : ℕ) → a ≡ q * d + r → r < d → q < 2 * h
        → closest (2 * h * d - a) d ≡ 2 * h - nearest q (compare (r * 2) d)
    by q zero is low most =
        let all : (2 * h - q) * d + q * d ≡ 2 * h * d = sym (add-mul (2 * h - q) q d)
        ∙ ap (λ k. k * d) (omega (arith, most)) in
        by_parts (2 * h * d - a) d (2 * h - q) 0 (omega (arith, all, is)) some
        ∙ (λ i. nearest (2 * h - q) (compare-lt 0 d some i))
        ∙ (λ i. 2 * h - nearest q (sym (compare-lt 0 d some) i))
    by q (suc r) is low most =
        let all : (2 * h - q - 1) * d + (q + 1) * d ≡ 2 * h * d = sym (add-mul (2 * h - q - 1) (q + 1) d)
        ∙ ap (λ k. k * d) (omega (arith, most)) in
        by_parts (2 * h * d - a) d (2 * h - q - 1) (d - suc r) (omega (arith, all, is, low)) (omega arith)
        ∙ turned h q (suc r) d (omega arith) low most

added : (h a d : ℕ) → 0 < d → closest (a + 2 * h * d) d ≡ closest a d + 2 * h
added h a d some =
    let (is, low) = parts_of a d some in
    by_parts (a + 2 * h * d) d (a / d + 2 * h) (a % d) (omega (arith, is)) low ∙ more (compare (a % d * 2) d)
  where
    more : (o : Ordering) → nearest (a / d + 2 * h) o ≡ nearest (a / d) o + 2 * h
    more Ordering.lt = refl
    more Ordering.eq = omega arith
    more Ordering.gt = omega arith

-- ---- the whole number that is nearest to a float: by a sum that is where floats are 1 apart

-- 3 * 2^51 and a whole number, or less it
abbrev moved : Bool → ℕ → ℕ
moved s n = cond s (3 * 2 ^ 51 - n) (n + 3 * 2 ^ 51)

-- a float within a limit is rounded to n with the sign s, and so is its sum, and n is within it
abbrev Nearest : Float → ℕ → Type 0
Nearest x limit = (s : Bool) × (n : ℕ) × (n ≤ limit) × HasValue (add binary64 x (fin false 3 (pos 51))) false
    (moved s n) 1
    × (to_signed 63 (round_ties_even binary64 x) ≡ cond s (neg_ℤ (pos n)) (pos n))

by_value : (x y : Float) (limit : ℕ) → limit < 2 ^ 31 → HasValue y false limit 1 → lt (neg y) x ≡ true → lt x y ≡ true
    → Nearest x limit
unfolding lt neg round_with add sum
by_value x nan limit few v g h = absurd v
by_value x (inf t) limit few v g h = absurd v
by_value nan (fin t a b) limit few v g h = absurd (true≢false (sym h))
by_value (inf false) (fin t a b) limit few v g h = absurd (true≢false (sym h))
by_value (inf true) (fin t a b) limit few v g h = absurd (true≢false (sym g))
by_value (fin s m e) (fin t a b) limit few v g h = (s, closest (m * up e) (down e), most, (by s).0, (by s).1)
  where
    sizes : (s t : Bool) → t ≡ false → below (not t) (a * up b * down e) s (m * up e * down b) ≡ true
        → below s (m * up e * down b) t (a * up b * down e) ≡ true → m * up e * down b < a * up b * down e
    sizes s true is g h = absurd (true≢false is)
    sizes false false is g h = ltb-true _ _ h
    sizes true false is g h = ltb-true _ _ g

    within : m * up e < limit * down e
    within =
        let limit_is : a * up b ≡ limit * down b = sym (mul-one (a * up b)) ∙ v.1 in
        lt_of_mul-lt-mul_right (down b) (omega (arith, sizes s t v.0 g h, ap (λ k. k * down e) limit_is))

    small : m * up e < 2 ^ 31 * down e
    small = lt_of_lt_of_le within (mul-le-mul_right (down e) (omega (arith, few)))

    most : closest (m * up e) (down e) ≤ limit
    most =
        let low : m * up e / down e < limit = (div-lt_iff_lt-mul (down_pos e)).1 within in
        let next = nearest-le (m * up e / down e) (compare (m * up e % down e * 2) (down e)) in
        omega arith

    by : (s : Bool) → HasValue (add binary64 (fin s m e) (fin false 3 (pos 51))) false
        (moved s (closest (m * up e) (down e))) 1
        × (to_signed 63 (round_ties_even binary64 (fin s m e)) ≡ cond s (neg_ℤ (pos (closest (m * up e) (down e))))
        (pos (closest (m * up e) (down e))))
    by false = (
      spaced (m * up e * 1 + 3 * 2 ^ 51 * down e) (down e * 1) (closest (m * up e) (down e) + 3 * 2 ^ 51)
          (omega (arith, down_pos e)) (omega (arith, small)) (omega (arith, small))
          (ap (λ d. closest (m * up e * 1 + 3 * 2 ^ 51 * down e) d) (mul-one (down e))
          ∙ ap (λ a. closest (a + 3 * 2 ^ 51 * down e) (down e)) (mul-one (m * up e))
          ∙ added (3 * 2 ^ 50) (m * up e) (down e) (down_pos e))
          (omega (arith, most, few)),
      (rounded false (closest (m * up e) (down e)) (omega (arith, most, few))).1,
    )
    by true = (
      rw (lt-ltb (m * up e * 1) (3 * 2 ^ 51 * down e) (omega (arith, small)))
          (spaced (3 * 2 ^ 51 * down e - m * up e * 1) (down e * 1) (3 * 2 ^ 51 - closest (m * up e) (down e))
          (omega (arith, down_pos e)) (omega (arith, small)) (omega (arith, small))
          (ap (λ d. closest (3 * 2 ^ 51 * down e - m * up e * 1) d) (mul-one (down e))
          ∙ ap (λ a. closest (3 * 2 ^ 51 * down e - a) (down e)) (mul-one (m * up e))
          ∙ mirrored (3 * 2 ^ 50) (m * up e) (down e) (down_pos e) (omega (arith, small)))
          (omega (arith, most, few))),
      (rounded true (closest (m * up e) (down e)) (omega (arith, most, few))).1,
    )

-- 3 * 2^51 as a literal
middle_is : of_bits binary64 0x4338_0000_0000_0000 ≡ fin false 3 (pos 51)
unfolding of_bits
middle_is = refl

-- what a sum has over 3 * 2^51
difference : (s : Bool) (n : ℕ) → n < 2 ^ 31 → FitsSigned w64 (pos (moved s n) -ℤ pos (3 * 2 ^ 51))
    × (pos (moved s n) -ℤ pos (3 * 2 ^ 51) ≡ cond s (neg_ℤ (pos n)) (pos n))
difference s n few = (subst (FitsSigned w64) (sym (is s)) (held s n few), is s)
  where
    held : (s : Bool) (n : ℕ) → n < 2 ^ 31 → FitsSigned w64 (cond s (neg_ℤ (pos n)) (pos n))
    held false n h = record { sfits = omega (arith, h) }
    held true zero h = record { sfits = omega (arith, h) }
    held true (suc n) h = record { sfits = omega (arith, h) }

    is : (s : Bool) → pos (moved s n) -ℤ pos (3 * 2 ^ 51) ≡ cond s (neg_ℤ (pos n)) (pos n)
    is false = same_in (pos (n + 3 * 2 ^ 51) +ℤ neg_ℤ (pos (3 * 2 ^ 51))) (pos n)
        (omega (arith, ints, sum_is_lem, neg_is))
    is true = same_in (pos (3 * 2 ^ 51 - n) +ℤ neg_ℤ (pos (3 * 2 ^ 51))) (neg_ℤ (pos n))
        (omega (arith, ints, sum_is_lem, neg_is, few))

-- a float within a limit: the sum loses nothing as an integer, and what it has over 3 * 2^51 is nearest to the float
module _ (x : Float) (limit : ℕ) (few : limit < 2 ^ 31) (above : lt (neg (of_int binary64 (pos limit))) x ≡ true)
    (below : lt x (of_int binary64 (pos limit)) ≡ true) where
  abbrev total : Float
  total = add binary64 x (of_bits binary64 0x4338_0000_0000_0000)

  abbrev rest : ℤ
  rest = to_z w64 (of_z w64 (to_signed 63 total)) -ℤ pos (3 * 2 ^ 51)

  near : Nearest x limit
  unfolding of_int
  near = by_value x (of_int binary64 (pos limit)) limit few (exact false limit (omega (arith, few))) above below

  low_near : near.1 < 2 ^ 31
  low_near = omega (arith, near.2, few)

  total_is : Whole total false (moved near.0 near.1)
  total_is = whole_of total false (moved near.0 near.1)
      (subst (λ y. HasValue (add binary64 x y) false (moved near.0 near.1) 1) (sym middle_is) near.3)
      (held near.0 near.1 low_near)
    where
      held : (s : Bool) (n : ℕ) → n < 2 ^ 31 → moved s n ≤ 2 ^ 53
      held true n h = omega (arith, h)
      held false n h = omega (arith, h)

  pub can_cast : T (in_signed binary64 63 total)
  can_cast = total_is.0 refl

  rest_is : rest ≡ cond near.0 (neg_ℤ (pos near.1)) (pos near.1)
  rest_is = ap (λ z. to_z w64 (of_z w64 z) -ℤ pos (3 * 2 ^ 51)) total_is.1 ∙ ap (λ z. z -ℤ pos (3 * 2 ^ 51))
      (to_z-of_z {w = w64} {z = pos (moved near.0 near.1)} (held near.0 near.1 low_near))
      ∙ (difference near.0 near.1 low_near).1
    where
      held : (s : Bool) (n : ℕ) → n < 2 ^ 31 → FitsSigned w64 (pos (moved s n))
      held true n h = record { sfits = omega (arith, h) }
      held false n h = record { sfits = omega (arith, h) }

  pub rest_fits : FitsSigned w64 rest
  rest_fits = subst (FitsSigned w64) ((difference near.0 near.1 low_near).1 ∙ sym rest_is)
      (difference near.0 near.1 low_near).0

  rest_within : nat_abs rest ≤ limit
  rest_within = subst (λ z. nat_abs z ≤ limit) (sym rest_is) (held near.0 near.1 near.2)
    where
      held : (s : Bool) (n : ℕ) → n ≤ limit → nat_abs (cond s (neg_ℤ (pos n)) (pos n)) ≤ limit
      held false n h = h
      held true zero h = h
      held true (suc n) h = h

  -- the same as an integer of 32 bits
  pub narrow_fits : FitsSigned w32 (to_z w64 (of_z w64 rest))
  narrow_fits = subst (FitsSigned w32) (sym (to_z-of_z {w = w64} {z = rest} rest_fits)) (held rest rest_within)
    where
      held : (z : ℤ) → nat_abs z ≤ limit → FitsSigned w32 z
      held (pos n) h = record { sfits = omega (arith, h, few) }
      held (negsuc n) h = record { sfits = omega (arith, h, few) }

  narrow_is : to_z w32 (of_z w32 (to_z w64 (of_z w64 rest))) ≡ rest
  narrow_is = to_z-of_z {w = w32} {z = to_z w64 (of_z w64 rest)} narrow_fits ∙ to_z-of_z {w = w64} {z = rest} rest_fits

  pub narrow_is_nearest : to_z w32 (of_z w32 (to_z w64 (of_z w64 rest))) ≡ to_signed 63 (round_ties_even binary64 x)
  narrow_is_nearest = narrow_is ∙ rest_is ∙ sym near.4

  pub narrow_within : nat_abs (to_z w32 (of_z w32 (to_z w64 (of_z w64 rest)))) ≤ limit
  narrow_within = subst (λ z. nat_abs z ≤ limit) (sym narrow_is) rest_within

-- ---- a power of two as a divisor, and 1 over it as a factor

-- the exponent of 1 over 2^k
abbrev over_one : ℕ → ℤ
over_one zero = pos 0
over_one (suc k) = negsuc k

-- a float times 1 over 2^k is the float over 2^k
product_is : (f : Format) (k : ℕ) (x : Float) → mul f x (fin false 1 (over_one k)) ≡ div f x (fin false 1 (pos k))
unfolding mul div
product_is f zero nan = refl
product_is f zero (inf s) = refl
product_is f zero (fin s m e) = (λ i. round f (unlike s false) (m * up e * 1) (by i))
  where
    by : down e * 1 ≡ 1 * 1 * down e
    by = omega arith
product_is f (suc k) nan = refl
product_is f (suc k) (inf s) = refl
product_is f (suc k) (fin s m e) = (λ i. round f (unlike s false) (m * up e * 1) (by i))
  where
    by : down e * 2 ^ suc k ≡ 1 * 2 ^ suc k * down e
    by = omega arith

-- whether a float is 2^k, and whether it is 1 over it
is_power : ℕ → Float → Bool
is_power k (fin false (suc zero) (pos j)) = eqb j k
is_power k _ = false

is_step : ℕ → Float → Bool
is_step zero (fin false (suc zero) (pos zero)) = true
is_step (suc k) (fin false (suc zero) (negsuc j)) = eqb j k
is_step k _ = false

power_of : (k : ℕ) (x : Float) → is_power k x ≡ true → x ≡ fin false 1 (pos k)
unfolding is_power
power_of k (fin false (suc zero) (pos j)) h = ap (λ i. fin false 1 (pos i)) (eqb-true j k h)
power_of k _ h = absurd (true≢false (sym h))

step_of : (k : ℕ) (x : Float) → is_step k x ≡ true → x ≡ fin false 1 (over_one k)
unfolding is_step
step_of zero (fin false (suc zero) (pos zero)) h = refl
step_of (suc k) (fin false (suc zero) (negsuc j)) h = ap (λ i. fin false 1 (negsuc i)) (eqb-true j k h)
step_of k _ h = absurd (true≢false (sym h))

-- whether all powers below 2^n, and 1 over each, are floats; one is the pattern of 1
are_powers : Format → ℕ → ℕ → Bool
unfolding of_int of_bits div round units odd size
are_powers f one zero = true
are_powers f one (suc n) =
    is_power n (of_int f (pos (2 ^ n))) &&
    (is_step n (div f (of_bits f one) (fin false 1 (pos n))) && are_powers f one n)

both : (a b : Bool) → (a && b) ≡ true → (a ≡ true) × (b ≡ true)
both true b h = (refl, h)
both false b h = absurd (true≢false (sym h))

abbrev IsPower : Format → ℕ → ℕ → Type 0
IsPower f one k = (is_power k (of_int f (pos (2 ^ k))) ≡ true)
    × (is_step k (div f (of_bits f one) (fin false 1 (pos k))) ≡ true)

last_and_others : (f : Format) (one n : ℕ) → are_powers f one (suc n) ≡ true → IsPower f one n
    × (are_powers f one n ≡ true)
unfolding are_powers
last_and_others f one n all =
    let (power, more) = both (is_power n (of_int f (pos (2 ^ n))))
    (is_step n (div f (of_bits f one) (fin false 1 (pos n))) && are_powers f one n) all in
    let (step, others) = both (is_step n (div f (of_bits f one) (fin false 1 (pos n)))) (are_powers f one n) more in
    ((power, step), others)

one_below : (f : Format) (one n k : ℕ) → are_powers f one n ≡ true → k < n → IsPower f one k
one_below f one zero k all less = absurd (omega (arith, less))
one_below f one (suc n) k all less =
    let (last, others) = last_and_others f one n all in
    by (ltb k n) refl last (λ h. one_below f one n k others h)
  where
    by : (b : Bool) → ltb k n ≡ b → IsPower f one n → (k < n → IsPower f one k) → IsPower f one k
    by true h last before = before (ltb-true _ _ h)
    by false h last before =
        subst (λ j. IsPower f one j) (let same : n ≡ k = omega (arith, less, ltb-false _ _ h) in same) last

-- a float times 1 over 2^k, by what the code has of both
times_step : (f : Format) (one n : ℕ) → are_powers f one n ≡ true → (k : ℕ) → k < n → (x : Float)
    → mul f x (div f (of_bits f one) (of_int f (pos (2 ^ k)))) ≡ div f x (of_int f (pos (2 ^ k)))
times_step f one n all k low x =
    let (is, step) = one_below f one n k all low in
    let power = power_of k (of_int f (pos (2 ^ k))) is in
    ap (λ y. mul f x (div f (of_bits f one) y)) power
    ∙ ap (mul f x) (step_of k (div f (of_bits f one) (fin false 1 (pos k))) step)
    ∙ product_is f k x
    ∙ ap (div f x) (sym power)

pub times_step32 : (k : ℕ) → k < 32 → (x : Float)
    → mul binary32 x (div binary32 (of_bits binary32 0x3f80_0000) (of_int binary32 (pos (2 ^ k))))
    ≡ div binary32 x (of_int binary32 (pos (2 ^ k)))
unfolding are_powers is_power is_step
times_step32 = times_step binary32 0x3f80_0000 32 refl

pub times_step64 : (k : ℕ) → k < 48 → (x : Float)
    → mul binary64 x (div binary64 (of_bits binary64 0x3ff0_0000_0000_0000) (of_int binary64 (pos (2 ^ k))))
    ≡ div binary64 x (of_int binary64 (pos (2 ^ k)))
unfolding are_powers is_power is_step
times_step64 = times_step binary64 0x3ff0_0000_0000_0000 48 refl

-- a float times 1 over 2^k, where 1 is an integer
one_is : of_int binary64 (pos 1) ≡ of_bits binary64 0x3ff0_0000_0000_0000
unfolding of_int of_bits round units odd size
one_is = refl

pub times_one_over : (k : ℕ) → k < 48 → (x : Float)
    → mul binary64 x (div binary64 (of_int binary64 (pos 1)) (of_int binary64 (pos (2 ^ k))))
    ≡ div binary64 x (of_int binary64 (pos (2 ^ k)))
times_one_over k less x =
    ap (λ y. mul binary64 x (div binary64 y (of_int binary64 (pos (2 ^ k))))) one_is ∙ times_step64 k less x

pub one_over : (y : Float) → div binary64 (of_bits binary64 0x3ff0_0000_0000_0000) y ≡ div binary64
    (of_int binary64 (pos 1)) y
one_over y = ap (λ x. div binary64 x y) (sym one_is)

-- ---- an integer over a power of two, and times it again

-- a fraction of the same size
as_fraction : (x : Float) (s : Bool) (w l num den : ℕ) → 0 < l → num * l ≡ w * den → HasValue x s w l
    → HasValue x s num den
as_fraction nan s w l num den p h v = absurd v
as_fraction (inf t) s w l num den p h v = absurd v
as_fraction (fin t m e) s w l num den p h v = (
  v.0,
  eq_of_mul-eq-mul_right l p (m * up e * den) (num * down e)
      (let one : m * up e * den * l ≡ m * up e * l * den = omega arith in
      let other : num * down e * l ≡ num * l * down e = omega arith in
      one ∙ ap (λ a. a * den) v.1 ∙ (let turned : w * down e * den ≡ w * den * down e = omega arith in turned)
      ∙ ap (λ a. a * down e) (sym h) ∙ sym other),
)

-- a whole number of the format's digits is a float itself
whole_number : (f : Format) (s : Bool) (n : ℕ) → n < 2 ^ prec f → HasValue (round f s n 1) s n 1
whole_number f s n few = round_exact f s n 1 n (low f) (omega arith) few
    (lt_of_lt_of_le (shl_lt (prec f) (low f) few)
    (pow_mono {i = prec f + low f} {j = low f + suc (emax f)} (omega (arith, reach f))))
    (sym (mul-one (n * 2 ^ low f)))

unlike-false : (s : Bool) → unlike s false ≡ s
unlike-false true = refl
unlike-false false = refl

-- a whole number over 2^k is its fraction itself
quotient : (f : Format) (s : Bool) (n k : ℕ) (x : Float) → n < 2 ^ prec f → k ≤ low f → HasValue x s n 1
    → HasValue (div f x (fin false 1 (pos k))) s n (2 ^ k)
unfolding div
quotient f s n k nan few small v = absurd v
quotient f s n k (inf t) few small v = absurd v
quotient f s n k (fin t m e) few small v =
    let num = m * up e * 1 in
    let den = 1 * 2 ^ k * down e in
    let some : 0 < den = mul-pos (mul-pos (omega arith) (pow_pos k)) (down_pos e) in
    let parts : 2 ^ (low f - k) * 2 ^ k ≡ 2 ^ low f =
    sym (pow-add 2 (low f - k) k) ∙ ap (λ i. 2 ^ i) (omega (arith, small)) in
    let fine : n * 2 ^ (low f - k) < 2 ^ (low f + suc (emax f)) =
    lt_of_lt_of_le (shl_lt (prec f) (low f - k) few)
    (pow_mono {i = prec f + (low f - k)} {j = low f + suc (emax f)} (omega (arith, reach f))) in
    let is : num * 2 ^ low f ≡ n * 2 ^ (low f - k) * den =
    ap (λ a. a * 2 ^ low f) v.1 ∙ ap (λ a. n * down e * a) (sym parts) ∙ omega arith in
    let same : n * den ≡ num * 2 ^ k =
    (let turned : n * den ≡ n * down e * 2 ^ k = omega arith in turned) ∙ ap (λ a. a * 2 ^ k) (sym v.1) in
    subst (λ u. HasValue (round f u num den) s n (2 ^ k)) (sym (unlike-false t ∙ v.0))
    (as_fraction (round f s num den) s num den n (2 ^ k) some same
    (round_exact f s num den n (low f - k) some few fine is))

-- times 2^k it is the whole number again
product : (s : Bool) (n k : ℕ) (x : Float) → n < 2 ^ 53 → HasValue x s n (2 ^ k)
    → HasValue (mul binary64 x (fin false 1 (pos k))) s n 1
unfolding mul
product s n k nan few v = absurd v
product s n k (inf t) few v = absurd v
product s n k (fin t m e) few v =
    let num = m * up e * (1 * 2 ^ k) in
    let den = down e * 1 in
    let some : 0 < den = mul-pos (down_pos e) (omega arith) in
    let fine : n * 2 ^ low binary64 < 2 ^ (low binary64 + suc (emax binary64)) =
    lt_of_lt_of_le (shl_lt 53 (low binary64) few)
    (pow_mono {i = 53 + low binary64} {j = low binary64 + suc (emax binary64)} (lit≤ (tt {0}))) in
    let same : num ≡ n * den = (let ones : num ≡ m * up e * 2 ^ k = omega arith in ones) ∙ v.1
    ∙ (let one : n * down e ≡ n * den = omega arith in one) in
    let is : num * 2 ^ low binary64 ≡ n * 2 ^ low binary64 * den =
    ap (λ a. a * 2 ^ low binary64) same ∙ times_turned n den (2 ^ low binary64) in
    subst (λ u. HasValue (round binary64 u num den) s n 1) (sym (unlike-false t ∙ v.0))
    (as_fraction (round binary64 s num den) s num den n 1 some (sym same ∙ sym (mul-one num))
    (round_exact binary64 s num den n (low binary64) some few fine is))
  where
    times_turned : (a b c : ℕ) → a * b * c ≡ a * c * b
    times_turned a b c = omega arith

-- the nearest whole number to one is itself
nearest_whole : (s : Bool) (n : ℕ) (x : Float) → n ≤ 2 ^ 52 → HasValue x s n 1
    → to_signed 63 (round_ties_even binary64 x) ≡ cond s (neg_ℤ (pos n)) (pos n)
unfolding round_with
nearest_whole s n nan few v = absurd v
nearest_whole s n (inf t) few v = absurd v
nearest_whole s n (fin t m e) few v =
    subst (λ u. to_signed 63 (round_ties_even binary64 (fin u m e)) ≡ cond s (neg_ℤ (pos n)) (pos n)) (sym v.0) (by s)
  where
    is : closest (m * up e) (down e) ≡ n
    is = by_parts (m * up e) (down e) n 0 (omega (arith, v.1)) (down_pos e)
        ∙ ap (nearest n) (compare-lt 0 (down e) (down_pos e))

    by : (s : Bool) → to_signed 63 (round_ties_even binary64 (fin s m e)) ≡ cond s (neg_ℤ (pos n)) (pos n)
    by false = ap (λ i. to_signed 63 (round binary64 false i 1)) is ∙ (rounded false n few).1
    by true = ap (λ i. to_signed 63 (round binary64 true i 1)) is ∙ (rounded true n few).1

-- an integer over 2^k as a float, times 2^k, and as the nearest integer
there_and_back : (f : Format) (s : Bool) (n k : ℕ) → n < 2 ^ prec f → n ≤ 2 ^ 52 → k ≤ low f
    → of_int f (pos (2 ^ k)) ≡ fin false 1 (pos k) → of_int binary64 (pos (2 ^ k)) ≡ fin false 1 (pos k)
    → to_signed 63 (round_ties_even binary64 (mul binary64 (div f (round f s n 1) (of_int f (pos (2 ^ k))))
    (of_int binary64 (pos (2 ^ k))))) ≡ cond s (neg_ℤ (pos n)) (pos n)
there_and_back f s n k few most small power factor =
    (λ i. to_signed 63 (round_ties_even binary64 (mul binary64 (div f (round f s n 1) (power i)) (factor i))))
    ∙ nearest_whole s n (mul binary64 (div f (round f s n 1) (fin false 1 (pos k))) (fin false 1 (pos k))) most
    (product s n k (div f (round f s n 1) (fin false 1 (pos k))) (omega (arith, most))
    (quotient f s n k (round f s n 1) few small (whole_number f s n few)))

power32 : (k : ℕ) → k < 32 → of_int binary32 (pos (2 ^ k)) ≡ fin false 1 (pos k)
unfolding are_powers is_power is_step
power32 k less = power_of k (of_int binary32 (pos (2 ^ k))) (one_below binary32 0x3f80_0000 32 k refl less).0

power64 : (k : ℕ) → k < 48 → of_int binary64 (pos (2 ^ k)) ≡ fin false 1 (pos k)
unfolding are_powers is_power is_step
power64 k less = power_of k (of_int binary64 (pos (2 ^ k))) (one_below binary64 0x3ff0_0000_0000_0000 48 k refl less).0

-- an integer of so many bits is the same again
module _ (f : Format) (bits : ℕ) (digits : bits - 1 < prec f) (small : bits - 1 ≤ low f) (few : bits ≤ 32)
    (power : of_int f (pos (2 ^ (bits - 1))) ≡ fin false 1 (pos (bits - 1))) where
  abbrev again : Float → ℤ
  again x = to_signed 63 (round_ties_even binary64 (mul binary64 (div f x (of_int f (pos (2 ^ (bits - 1)))))
      (of_int binary64 (pos (2 ^ (bits - 1))))))

  of_size : (s : Bool) (n : ℕ) → n ≤ 2 ^ (bits - 1) → again (round f s n 1) ≡ cond s (neg_ℤ (pos n)) (pos n)
  of_size s n h =
      let most : 2 ^ (bits - 1) ≤ 2 ^ 31 = pow_mono {i = bits - 1} {j = 31} (omega (arith, few)) in
      there_and_back f s n (bits - 1) (lt_of_le_of_lt h (pow-lt digits)) (omega (arith, h, most)) small power
      (power64 (bits - 1) (omega (arith, few)))

  came_back : (v : ℤ) → fits bits v ≡ true → again (of_int f v) ≡ v
  unfolding of_int
  came_back (pos n) fit = of_size false n (omega (arith, ltb-true _ _ fit))
  came_back (negsuc n) fit = of_size true (suc n) (omega (arith, ltb-true _ _ fit))

-- an integer that fits isn't clipped
clipped-fits : (bits : ℕ) (v : ℤ) → fits bits v ≡ true → clipped bits v ≡ v
clipped-fits bits (pos n) fit = ap pos (omega (arith, ltb-true _ _ fit))
clipped-fits bits (negsuc n) fit = ap negsuc (omega (arith, ltb-true _ _ fit))

comes_back : (float : ℕ → ℤ → Float) (bits : ℕ) (v : ℤ) → fits bits v ≡ true → scaled bits (float bits v) ≡ v
    → ComesBack float bits v
comes_back float bits v fit is =
    (ap (clipped bits) is ∙ clipped-fits bits v fit, ap (fits bits) is ∙ fit)

pub floats_come_back : (bits : ℕ) (v : ℤ) → 0 < bits → bits ≤ 24 → fits bits v ≡ true → ComesBack float_of_int bits v
floats_come_back bits v some few fit =
    comes_back float_of_int bits v fit
    (came_back binary32 bits (omega (arith, few)) (omega (arith, few)) (omega (arith, few))
    (power32 (bits - 1) (omega (arith, few))) v fit)

pub doubles_come_back : (bits : ℕ) (v : ℤ) → 0 < bits → bits ≤ 32 → fits bits v ≡ true → ComesBack double_of_int bits v
doubles_come_back bits v some few fit =
    comes_back double_of_int bits v fit
    (came_back binary64 bits (omega (arith, few)) (omega (arith, few)) few
    (power64 (bits - 1) (omega (arith, few))) v fit)
