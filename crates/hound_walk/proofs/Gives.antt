-- What reading gives, piece after piece.
use Rattle.std.proofs.lemmas.Grind.{common_steps}
use Rattle.std.proofs.Common.{◌≡◌, ℕ, ◌+◌, ◌≤◌, List, ◌++◌, length, take, drop, ap, ◌∙◌, arith, take_at, length-append, Option, Result, Ok, Err}
use Rattle.std.proofs.Math.Seq.{drop-append-add}
use Rattle.std.specs.Io.KnownBytes.{Consumes}
use Rattle.hound_walk.specs.declared.cause.Cause.{Cause}
use Rattle.hound_walk.specs.declared.cause.HeadError.{HeadError}
use Rattle.hound_number.specs.{WhereKnown}
use Rattle.hound_number.proofs.KnownSteps.{known_from, known_then}
use Rattle.hound_walk.specs.Walking.{Gives}

-- these bytes were taken, and f of them is Ok x
pub ok_from_taken : {A : Type 0} (k : ℕ) (bs : List ℕ) (o n : Option (List ℕ))
    (f : List ℕ → Result A Cause) (x : A) → Consumes o n bs → length bs ≡ k → f bs ≡ Ok x
    → WhereKnown o n (λ xs ys. (f (take k xs) ≡ Ok x) × (k ≤ length xs) × (ys ≡ drop k xs))
ok_from_taken k bs o n f x h l e = grind (arith, common_steps)

-- the same if f of them is a fault
pub err_from_taken : {A : Type 0} (k : ℕ) (bs : List ℕ) (o n : Option (List ℕ))
    (f : List ℕ → Result A Cause) (c : Cause) → Consumes o n bs → length bs ≡ k → f bs ≡ Err c
    → WhereKnown o n (λ xs ys. f (take k xs) ≡ Err c)
err_from_taken k bs o n f c h l e = known_from bs o n _ h (λ ys. ap f (take_at bs ys k l) ∙ e)

-- h was taken, and then what f reads; g reads both
pub gives_from : {A : Type 0} (k j : ℕ) (h : List ℕ) (o m n : Option (List ℕ))
    (r : Result A HeadError) (f g : List ℕ → Result A Cause) → Consumes o m h → j ≡ length h + k
    → ((ys : List ℕ) → g (h ++ ys) ≡ f ys) → Gives m n k r f → Gives o n j r g
gives_from k j h o m n r f g t l e d = grind (arith, common_steps, length-append, drop-append-add, known_then)

-- h was taken, and g of what begins with h is a fault
pub known_err : {A : Type 0} (h : List ℕ) (o m : Option (List ℕ)) (g : List ℕ → Result A Cause)
    (c : Cause) → Consumes o m h → ((ys : List ℕ) → g (h ++ ys) ≡ Err c)
    → WhereKnown o m (λ xs ys. g xs ≡ Err c)
known_err h o m g c t e = known_from h o m _ t e
