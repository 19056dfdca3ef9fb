-- What is taken of the first twelve bytes, piece after piece.
use Rattle.std.proofs.lemmas.Grind.{common_steps}
use Rattle.std.proofs.Common.{◌≡◌, ℕ, ◌+◌, ◌<◌, ◌≤◌, List, [], ◌++◌, length, refl, sym, arith, drop_at, length-append, Option, Some, None}
use Rattle.std.proofs.Math.Seq.{drop-length}
use Rattle.std.specs.Io.KnownBytes.{Consumes}
use Rattle.std.proofs.KnownBytes.{Consumes-trans}
use Rattle.hound_number.specs.{WhereKnown}
use Rattle.hound_number.proofs.KnownSteps.{known_from, known_then}
use Rattle.hound_walk.specs.Grammar.{front_fault}
use Rattle.hound_walk.specs.Walking.{TakesFront, TakesLess, ReportsFront, Rejects, AreTaken}
use Rattle.hound_walk.specs.Rejections.{ReportsError}
use Rattle.hound_spec.specs.declared.error.Error.{Error}
use Rattle.hound_walk.specs.declared.cause.Cause.TheVariants.{Ended, Unsupported}
use Rattle.hound_walk.specs.declared.cause.HeadError.{HeadError}
use Rattle.hound_walk.specs.declared.cause.HeadError.TheVariants.{Failed, Rejected}

-- these bytes were taken
pub all_taken : (bytes : List ℕ) (k : ℕ) (o n : Option (List ℕ)) → Consumes o n bytes
    → length bytes ≡ k → WhereKnown o n (AreTaken k)
all_taken bytes k o n taken l = grind (arith, common_steps)

-- h was taken, and then a part of what was needed: a fault or the end cut it
pub front_cut : (h : List ℕ) (k : ℕ) (o m n : Option (List ℕ)) (e : HeadError) → Consumes o m h
    → length h + k ≤ 12 → (bytes : List ℕ) × (length bytes < k) × Consumes m n bytes
    → Rejects e (λ c. (c ≡ Ended) × WhereKnown m n (λ xs ys. (length xs < k) × (ys ≡ [])))
    → WhereKnown o n (TakesFront e)
front_cut h k o m n (Failed e) taken room (bytes, less, part) r =
    known_from (h ++ bytes) o n TakesLess (Consumes-trans o m n h bytes taken part) (λ ys. (
      length (h ++ bytes),
      omega (arith, length-append h bytes, less, room),
      (
        omega (arith, length-append (h ++ bytes) ys),
        sym (drop_at (h ++ bytes) ys (length (h ++ bytes)) refl),
      ),
    ))
front_cut h k o m n (Rejected c) taken room part (is, end) =
    grind (arith, common_steps, drop-length, known_then)

ends_in_front : (xs : List ℕ) → front_fault xs ≡ Some Ended → length xs < 12
unfolding front_fault
ends_in_front xs e = grind (arith, common_steps)

no_unsupported : (xs : List ℕ) → front_fault xs ≡ Some Unsupported → ⊥
unfolding front_fault
no_unsupported xs e = grind (arith, common_steps)

-- what callers get for it
modelled : (e : HeadError) (error : Error) (xs ys : List ℕ) → ReportsError e error
    → Rejects e (λ c. front_fault xs ≡ Some c) → TakesFront e xs ys → ReportsFront error xs ys
modelled e error xs ys r f t = grind (arith, common_steps, ends_in_front, no_unsupported)

pub front_reported : (e : HeadError) (error : Error) (o n : Option (List ℕ)) → ReportsError e error
    → Rejects e (λ c. WhereKnown o n (λ xs ys. front_fault xs ≡ Some c)) → WhereKnown o n (TakesFront e)
    → WhereKnown o n (ReportsFront error)
front_reported e error None n r f t = tt
front_reported e error (Some xs) None r f t = t
front_reported (Failed x) error (Some xs) (Some ys) r f t = modelled (Failed x) error xs ys r tt t
front_reported (Rejected c) error (Some xs) (Some ys) r f t = modelled (Rejected c) error xs ys r f t
