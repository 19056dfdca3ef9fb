-- What holds for every pair of used bits and bytes.
use Rattle.std.proofs.lemmas.Grind.{common_steps}
use Rattle.std.proofs.Common.{◌≡◌, ℕ, ◌*◌, ◌%◌, ◌<◌, ◌≤◌, true, ◌&&◌, ◌==◌, List, [], ◌∷◌, sym, subst, inl, inr, arith, eqb-true}
use Rattle.std.proofs.lemmas.Bool.{or_cases, and_parts}
use Rattle.std.specs.List.{list_any, AllByRecursion}
use Rattle.hound_spec.specs.declared.spec.SampleFormat.{SampleFormat}
use Rattle.hound_spec.specs.Header.{pairs, IsPair}

-- what holds for each row of a list of pairs holds for the pairs that are in it
of_row : (P : ℕ → ℕ → Type 0) (rows : List (ℕ × ℕ)) (bits width : ℕ) → AllByRecursion (λ (b, w). P b w) rows
    → list_any (λ (b, w). bits == b && width == w) rows ≡ true → P bits width
of_row P [] bits width each is = cc
of_row P ((b, w) ∷ rows) bits width (here, each) is =
    elim (or_cases (bits == b && width == w) _ is) [
      | inl same ↦ let (is_bits, is_width) = and_parts (bits == b) (width == w) same in
          subst (λ (x : ℕ × ℕ). P x.0 x.1)
          (λ i. (sym (eqb-true bits b is_bits) i, sym (eqb-true width w is_width) i)) here
      | inr more ↦ of_row P rows bits width each more
    ]

-- what holds for each pair of the one list
pub of_pair : (P : ℕ → ℕ → Type 0) (f : SampleFormat) (bits width : ℕ)
    → AllByRecursion (λ (b, w). P b w) (pairs f) → IsPair f bits width → P bits width
of_pair P f bits width each is = of_row P (pairs f) bits width each is

-- the used bits are whole bytes, one or more, and fit in the container of one to four bytes
pub record PairFacts (bits width : ℕ) : Type 0 where
  pub some_bits : 0 < bits
  pub whole_bytes : bits % 8 ≡ 0
  pub in_width : bits ≤ 8 * width
  pub some : 1 ≤ width
  pub few : width ≤ 4

pub pair_facts : (f : SampleFormat) (bits width : ℕ) → IsPair f bits width → PairFacts bits width
pair_facts f bits width is = grind (arith, common_steps)
