-- Steps of an input whose bytes are known, joined.
use Rattle.std.proofs.Common.{rules}
use Rattle.std.proofs.Common.{ℕ, List, ◌++◌, Option}
use Rattle.std.specs.Prelude.{IfSome}
use Rattle.std.specs.Io.KnownBytes.{Consumes}
use Rattle.hound_number.specs.Io.{WhereKnown}

-- these bytes were taken: what holds for bytes that begin with them
pub known_from : (bytes : List ℕ) (o n : Option (List ℕ)) (P : List ℕ → List ℕ → Type 0)
    → Consumes o n bytes → ((ys : List ℕ) → P (bytes ++ ys) ys) → WhereKnown o n P
known_from bytes o n P taken f = search rules

-- these bytes were taken, and then Q holds
pub known_then : (bytes : List ℕ) (o m n : Option (List ℕ)) (Q P : List ℕ → List ℕ → Type 0)
    → Consumes o m bytes → WhereKnown m n Q → ((ys zs : List ℕ) → Q ys zs → P (bytes ++ ys) zs)
    → WhereKnown o n P
known_then bytes o m n Q P taken q f = search rules

pub known_weaker : (o n : Option (List ℕ)) (Q P : List ℕ → List ℕ → Type 0) → WhereKnown o n Q
    → ((xs ys : List ℕ) → Q xs ys → P xs ys) → WhereKnown o n P
known_weaker o n Q P q f = search rules

-- Q, and then P
pub known_both : (o m n : Option (List ℕ)) (Q P S : List ℕ → List ℕ → Type 0) → WhereKnown o m Q
    → WhereKnown m n P → ((xs ys zs : List ℕ) → Q xs ys → P ys zs → S xs zs) → WhereKnown o n S
known_both o m n Q P S q p f = search rules

-- what holds for the bytes that were left
pub known_some : (o n : Option (List ℕ)) (P : List ℕ → List ℕ → Type 0) (Q : List ℕ → Type 0)
    → WhereKnown o n P → ((xs ys : List ℕ) → P xs ys → Q xs) → IfSome o Q
known_some o n P Q k f = search rules
