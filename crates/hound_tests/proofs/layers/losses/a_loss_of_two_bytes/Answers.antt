use Rattle.std.proofs.Common.{◌≡◌, ℕ, zero, suc, ◌<◌, ◌≤◌, List, [], ◌∷◌, length, refl, arith}
use Rattle.hound_medium.specs.{moment}
use Rattle.hound_durable.specs.{SurvivesLoss, byte_at}
use Rattle.hound_tests.proofs.layers.losses.a_loss_of_two_bytes.Goals as goal

abbrev zeros : List ℕ
zeros = 0 ∷ 0 ∷ 0 ∷ 0 ∷ []

abbrev past : List (ℕ × ℕ)
past = (4, 7) ∷ (0, 1) ∷ []

-- one state for each sector
all_of : (f k : ℕ) (c : List ℕ) → f ≤ k → k ≤ 2
    → ((i : ℕ) → i < length c → byte_at c i ≡ byte_at (moment zeros past k) i)
    → (j : ℕ) → f ≤ j → j ≤ 2 → length c ≡ length (moment zeros past j)
    → SurvivesLoss 2 zeros past f 2 c
all_of f k c from to same j since until long = record {
  long = (j, since, until, long);
  sectors = λ n. (k, from, to, λ i at less. same i less);
}

pub returns-clause-goes_back : goal.returns-clause-goes_back
returns-clause-goes_back c ascends = omega (arith, ascends 0 1 (omega arith) (omega arith) (omega arith))

pub returns-clause-counts_what_is_lost : goal.returns-clause-counts_what_is_lost
returns-clause-counts_what_is_lost c =
    all_of 0 2 (1 ∷ 0 ∷ 0 ∷ 0 ∷ []) (omega arith) (omega arith) same 0 (omega arith) (omega arith) refl
  where
    same : (i : ℕ) → i < 4 → byte_at (1 ∷ 0 ∷ 0 ∷ 0 ∷ []) i ≡ byte_at (moment zeros past 2) i
    same zero less = refl
    same (suc zero) less = refl
    same (suc (suc zero)) less = refl
    same (suc (suc (suc zero))) less = refl
    same (suc (suc (suc (suc i)))) less = absurd (omega (arith, less))

pub returns-clause-ascends : goal.returns-clause-ascends
returns-clause-ascends c i j from less to = absurd (omega (arith, from, less, to))

pub returns-clause-is_there : goal.returns-clause-is_there
returns-clause-is_there c lost = short lost.long.0 lost.long.1 lost.long.2 lost.long.3
  where
    short : (j : ℕ) → 1 ≤ j → j ≤ 2 → 4 ≡ length (moment zeros past j) → ⊥
    short zero from to long = omega (arith, from)
    short (suc zero) from to long = omega (arith, long)
    short (suc (suc zero)) from to long = omega (arith, long)
    short (suc (suc (suc j))) from to long = omega (arith, to)

pub returns-clause-before : goal.returns-clause-before
returns-clause-before c =
    all_of 1 1 (0 ∷ 0 ∷ 0 ∷ 0 ∷ 7 ∷ []) (omega arith) (omega arith) (λ i less. refl) 1 (omega arith)
    (omega arith) refl

pub returns-clause-after : goal.returns-clause-after
returns-clause-after c =
    all_of 1 2 (1 ∷ 0 ∷ 0 ∷ 0 ∷ 7 ∷ []) (omega arith) (omega arith) (λ i less. refl) 2 (omega arith)
    (omega arith) refl

pub returns-clause-no_other : goal.returns-clause-no_other
returns-clause-no_other c lost =
    let last = lost.sectors 2 in
    other last.0 last.1 last.2 (last.3 4 refl (omega arith))
  where
    other : (j : ℕ) → 1 ≤ j → j ≤ 2 → 0 ≡ byte_at (moment zeros past j) 4 → ⊥
    other zero from to same = omega (arith, from)
    other (suc zero) from to same = omega (arith, same)
    other (suc (suc zero)) from to same = omega (arith, same)
    other (suc (suc (suc j))) from to same = omega (arith, to)
