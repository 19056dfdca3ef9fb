-- What a reader returns.
use Rattle.std.proofs.lemmas.Grind.{common_steps}
use Rattle.std.proofs.Common.{◌≡◌, ℕ, drop, List, sym, subst, Option, Err, arith}
use Rattle.std.specs.Prelude.{⊤, IfSome}
use Rattle.hound_spec.specs.declared.spec.WavSpecEx.{WavSpecEx}
use Rattle.hound_walk.specs.declared.cause.Cause.{Cause}
use Rattle.hound_walk.specs.declared.cause.HeadError.{HeadError}
use Rattle.hound_walk.specs.declared.cause.HeadError.TheVariants.{Failed, Rejected as Rejected'}
use Rattle.hound_spec.specs.declared.error.Error.{Error}
use Rattle.hound_walk.specs.{Rejects, Readable, Unreadable, Names, ReportsError, IsRejection, OpensAs, FailsAs}
use Rattle.hound_number.specs.{WhereKnown}
use Rattle.hound_walk.proofs.FileLemmas.{readable_one, readable_no_fault, unreadable_one}
use Rattle.hound_number.proofs.KnownSteps.{known_some}

if_some : (o : Option (List ℕ)) (Q : List ℕ → Type 0) → ((xs : List ℕ) → Q xs) → IfSome o Q
if_some o Q f = grind (arith, common_steps)

pub rejection_reported : (o n : Option (List ℕ)) (stop : HeadError) (e : Error)
    (P : List ℕ → Cause → Type 0) → ReportsError stop e
    → Rejects stop (λ c. WhereKnown o n (λ xs ys. P xs c)) → IfSome o (λ xs. IsRejection e (P xs))
rejection_reported o n stop e P r f = grind (arith, common_steps)

-- whatever ended the walk, callers get an `IoError` or the error of its cause
pub is_reported : (stop : HeadError) (e : Error) → ReportsError stop e → IsRejection e (λ _. ⊤)
is_reported stop e r = grind (arith, common_steps)

-- what can be read is opened, unless a read failed
pub opens_reported : {A : Type 0} (o n : Option (List ℕ)) (stop : HeadError) (e : Error)
    (P : WavSpecEx → ℕ → A → Type 0) → ReportsError stop e
    → Rejects stop (λ c. WhereKnown o n (λ xs ys. Unreadable xs c))
    → IfSome o (λ xs. (spec : WavSpecEx) (samples h : ℕ) → Readable xs spec samples h
    → OpensAs (Err e) (P spec samples))
opens_reported o n (Failed x) e P r f =
    if_some o _ (λ xs spec samples h a. subst (λ y. OpensAs (Err y) (P spec samples)) (sym r) tt)
opens_reported o n (Rejected' c) e P r f =
    known_some o n _ _ f
    (λ xs ys u spec samples h a. absurd (readable_no_fault xs spec samples h c a u))

pub opens_ok : (o n : Option (List ℕ)) (spec : WavSpecEx) (samples place : ℕ)
    → WhereKnown o n (λ xs ys. Readable xs spec samples place × (ys ≡ drop place xs))
    → IfSome o (λ xs. (s : WavSpecEx) (m h : ℕ) → Readable xs s m h → (spec ≡ s) × (samples ≡ m))
opens_ok o n spec samples place k =
    known_some o n _ (λ xs. (s : WavSpecEx) (m h : ℕ) → Readable xs s m h → (spec ≡ s)
    × (samples ≡ m)) k (λ xs ys p s m h a. let e = readable_one xs spec s samples m place h p.0 a in
    (e.0, e.1))

names_fails : (e : Error) (c : Cause) → Names e c → FailsAs e c
names_fails e c n = grind (arith, common_steps)

pub no_fault_ok : (o n : Option (List ℕ)) (spec : WavSpecEx) (samples place : ℕ)
    → WhereKnown o n (λ xs ys. Readable xs spec samples place × (ys ≡ drop place xs))
    → IfSome o (λ xs. (c : Cause) → Unreadable xs c → ⊥)
no_fault_ok o n spec samples place k =
    known_some o n _ (λ xs. (c : Cause) → Unreadable xs c → ⊥) k
    (λ xs ys p c u. readable_no_fault xs spec samples place c p.0 u)

pub fails_reported : (o n : Option (List ℕ)) (stop : HeadError) (e : Error) → ReportsError stop e
    → Rejects stop (λ c. WhereKnown o n (λ xs ys. Unreadable xs c))
    → IfSome o (λ xs. (c : Cause) → Unreadable xs c → FailsAs e c)
fails_reported o n (Failed x) e r f = if_some o _ (λ xs c u. subst (λ y. FailsAs y c) (sym r) tt)
fails_reported o n (Rejected' d) e r f =
    known_some o n _ _ f
    (λ xs ys v c u. names_fails e c (subst (Names e) (unreadable_one xs d c v u) r))
