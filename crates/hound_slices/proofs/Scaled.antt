-- Floats that are encoded as integers.
use mathlib.Core.Path.{◌≡◌, refl, sym, ap, ◌∙◌}
use Prim.Native.Nat.{ℕ, ◌*◌, ◌-◌, ◌<◌, ◌^◌, min}
use native.Mathlib.Omega.{arith}
use Rattle.std.proofs.Common.{ℤ, pos, negsuc, true, List, [], ◌∷◌, ◌++◌, drop, length, map, subst, Ok}
use Rattle.std.proofs.lemmas.List.{drop_at, take_at}
use lib.Pow.{pow_pos}
use borrow.Author.Tests.{lt-ltb}
use Rattle.hound_spec.specs.{IsPair}
use Rattle.hound_spec.specs.declared.spec.SampleFormat.TheVariants.{Int}
use Rattle.hound_spec.specs.declared.spec.WavSpecEx.{WavSpecEx}
use Rattle.hound_sample.proofs.Amplitudes.{fits_container}
use Rattle.hound_sample.proofs.Joined.{joined}
use Rattle.hound_sample.specs.{all_containers, and_more, clipped, fits, int_container, int_container-in_width, joined_containers}
use Rattle.hound_slices.specs.Writing.{Encodes}
use Rattle.hound_slices.proofs.Checks.{passed}

-- a number that is clipped fits
pub clipped_fits : (bits : ℕ) (v : ℤ) → fits bits (clipped bits v) ≡ true
clipped_fits bits (pos n) =
    lt-ltb _ _ (let less : min n (2 ^ (bits - 1) - 1) < 2 ^ (bits - 1) = omega (arith, pow_pos (bits - 1)) in less)
clipped_fits bits (negsuc n) =
    lt-ltb _ _ (let less : min n (2 ^ (bits - 1) - 1) < 2 ^ (bits - 1) = omega (arith, pow_pos (bits - 1)) in less)

-- integers that all fit have containers
all_have : {A : Type 0} (bits width : ℕ) (f : A → ℤ) (values : List A) → IsPair Int bits width
    → ((x : A) → fits bits (f x) ≡ true)
    → (list : List (List ℕ)) × (all_containers (λ v. int_container v bits width) (map f values) ≡ Ok list)
all_have bits width f [] pair fit = ([], refl)
all_have bits width f (x ∷ values) pair fit =
    let (first, first_is) = passed (int_container (f x) bits width) (fits_container (f x) bits width pair (fit x)) in
    let (others, others_are) = all_have bits width f values pair fit in
    (first ∷ others, (λ i. and_more (first_is i) (others_are i)))

-- their containers at the front of memory, of which the rest stays, are what encoding leaves
pub encoded : {A : Type 0} (s : WavSpecEx) (f : A → ℤ) (values : List A) (n : ℕ) (bytes out : List ℕ)
    → s.spec.sample_format ≡ Int → IsPair Int s.spec.bits_per_sample s.bytes_per_sample
    → ((x : A) → fits s.spec.bits_per_sample (f x) ≡ true)
    → n ≡ length (map f values) * s.bytes_per_sample
    → bytes ≡ joined_containers (λ v. int_container v s.spec.bits_per_sample s.bytes_per_sample) (map f values)
    → Encodes Int int_container s (map f values) out (bytes ++ drop n out) (Ok n)
encoded s f values n bytes out format pair fit n_is bytes_are =
    let bits = s.spec.bits_per_sample in
    let width = s.bytes_per_sample in
    let (list, list_is) = all_have bits width f values pair fit in
    let j = joined (λ (v : ℤ). int_container v bits width) width (λ v b e. (int_container-in_width v bits width b e).0)
    (map f values) list list_is in
    let size : length bytes ≡ n = ap length bytes_are ∙ omega (arith, j.size, n_is) in (
      format,
      subst (λ t. IsPair t bits width) (sym format) pair,
      list,
      list_is,
      take_at bytes (drop n out) n size ∙ bytes_are ∙ j.bytes,
      drop_at bytes (drop n out) n size,
      n_is,
    )
