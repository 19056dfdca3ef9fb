-- The tables of a sample type of twelve bits.
use Rattle.std.proofs.Common.{◌≡◌, ℕ, ℤ, pos, ◌%◌, ◌≤◌, ◌-ℤ◌, Bool, true, false, cond, ◌&&◌, eqb, List, length, Option, None, Some, Result, Ok, Err, refl, ap, arith}
use Rattle.std.specs.Prelude.{◌==◌, nat_lt, if◌then◌else◌}
use Rattle.std.proofs.lemmas.Bool.{and_parts, eqb-true}
use Rattle.hound.specs.{twos_complement, signed_bytes_of, Rejection, too_wide, unsupported, fits, ReadRejection, other_format, misfit, int_meaning, SampleFormat}
use Rattle.hound.specs.declared.SampleFormat.TheVariants.{Int, Float}

-- the lowest twelve bits, as a signed number
abbrev pub low_twelve : ℤ → ℤ
low_twelve z =
    if nat_lt (twos_complement 2 z % 4096) 2048 then pos (twos_complement 2 z % 4096) else
    (pos (twos_complement 2 z % 4096) -ℤ pos 4096)

abbrev pub twelve_container : ℤ → ℕ → ℕ → Result (List ℕ) Rejection
twelve_container v bits width =
    if bits == 16 && width == 2 then
    (if fits 12 v then Ok (signed_bytes_of 2 v) else Err too_wide) else Err unsupported

abbrev pub twelve_rejection : SampleFormat → ℕ → ℕ → Option ReadRejection
twelve_rejection Float width bits = Some other_format
twelve_rejection Int width bits =
    if nat_lt 2 width then Some (misfit too_wide) else if width == 2 && bits == 16 then None else Some
    (misfit unsupported)

abbrev pub twelve_meaning : List ℕ → ℤ
twelve_meaning container = low_twelve (int_meaning 2 16 container)

-- a container has two bytes
pub twelve_container-in_width : (v : ℤ) (bits width : ℕ) (c : List ℕ)
    → twelve_container v bits width ≡ Ok c → (length c ≡ width) × (1 ≤ width) × (width ≤ 4)
twelve_container-in_width v bits width c is = by_pair (eqb bits 16 && eqb width 2) refl is
  where
    by_range : (b : Bool) → width ≡ 2 → cond b (Ok (signed_bytes_of 2 v)) (Err too_wide) ≡ Ok c
        → (length c ≡ width) × (1 ≤ width) × (width ≤ 4)
    by_range true two e = let same : c ≡ signed_bytes_of 2 v = cc in let n : length c ≡ 2 =
        ap length same in (omega arith, omega arith, omega arith)
    by_range false two e = cc

    by_pair : (b : Bool) → (eqb bits 16 && eqb width 2) ≡ b
        → cond b (cond (fits 12 v) (Ok (signed_bytes_of 2 v)) (Err too_wide))
        (Err unsupported) ≡ Ok c → (length c ≡ width) × (1 ≤ width) × (width ≤ 4)
    by_pair true t e = by_range (fits 12 v) (eqb-true width 2 (and_parts _ _ t).1) e
    by_pair false t e = cc
