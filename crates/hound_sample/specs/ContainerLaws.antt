-- What holds for every container.
use Rattle.std.proofs.Common.{◌≡◌, ℕ, ℤ, pos, negsuc, ◌≤◌, Bool, true, false, cond, List, length, Result, Ok, Err, IsTrue, refl, ◌∙◌, ap, lit≤}
use Rattle.std.specs.List.{AllByRecursion}
use Rattle.hound_number.specs.{bytes_of}
use Rattle.hound_spec.specs.{IsPair, is_pair, pairs}
use Rattle.hound_spec.proofs.WritableLemmas.{of_pair}
use Rattle.hound_spec.specs.declared.spec.SampleFormat.TheVariants.{Int, Float}
use Rattle.hound_sample.specs.Container.{Rejection, too_wide, unsupported, fits, int_bytes, int_container, pattern_container, offset_byte}

-- one to four bytes, as many as the width says
abbrev InWidth : List ℕ → ℕ → Type 0
InWidth c width = (length c ≡ width) × (1 ≤ width) × (width ≤ 4)

-- what is Ok has met its condition
met : (b : Bool) (here : Result (List ℕ) Rejection) (rejection : Rejection) (c : List ℕ)
    → cond b here (Err rejection) ≡ Ok c → IsTrue b × (here ≡ Ok c)
met true here rejection c is = (refl, is)
met false here rejection c is = cc

-- an integer that has a container: its bits and bytes are a pair, and it fits
pub contained : (v : ℤ) (bits width : ℕ) (c : List ℕ) → int_container v bits width ≡ Ok c
    → IsPair Int bits width × IsTrue (fits bits v) × (c ≡ int_bytes v bits width)
unfolding int_container
contained v bits width c is =
    let (pair, fitting) = met (is_pair Int bits width) _ unsupported c is in
    let (fit, same) = met (fits bits v) (Ok (int_bytes v bits width)) too_wide c fitting in
    (pair, fit, cc)

-- a container of an integer has the requested number of bytes, one to four
pub int_container-in_width : (v : ℤ) (bits width : ℕ) (c : List ℕ) → int_container v bits width ≡ Ok c
    → (length c ≡ width) × (1 ≤ width) × (width ≤ 4)
int_container-in_width v bits width c is =
    let (pair, _, same) = contained v bits width c is in
    let (size, some, few) = of_pair (λ b w. InWidth (int_bytes v b w) w) Int bits width rows pair in
    (ap length same ∙ size, some, few)
  where
    one : (v : ℤ) → InWidth (offset_byte v) 1
    one (pos n) = (refl, lit≤ tt, lit≤ tt)
    one (negsuc n) = (refl, lit≤ tt, lit≤ tt)

    rows : AllByRecursion (λ (b, w). InWidth (int_bytes v b w) w) (pairs Int)
    rows = (
      one v,
      (
        (refl, lit≤ tt, lit≤ tt),
        ((refl, lit≤ tt, lit≤ tt), ((refl, lit≤ tt, lit≤ tt), ((refl, lit≤ tt, lit≤ tt), tt))),
      ),
    )

-- so has the container of a pattern
pub pattern_container-in_width : (pattern bits width : ℕ) (c : List ℕ)
    → pattern_container pattern bits width ≡ Ok c → (length c ≡ width) × (1 ≤ width) × (width ≤ 4)
unfolding pattern_container
pattern_container-in_width pattern bits width c is =
    let (pair, here) = met (is_pair Float bits width) (Ok (bytes_of 4 pattern)) unsupported c is in
    let same : c ≡ bytes_of 4 pattern = cc in
    let (size, some, few) = of_pair (λ b w. InWidth (bytes_of 4 pattern) w) Float bits width
    ((refl, lit≤ tt, lit≤ tt), tt) pair in
    (ap length same ∙ size, some, few)
