use Rattle.std.proofs.lemmas.Grind.{common_steps}
use Rattle.std.proofs.Common.{◌∙◌, ◌≡◌, ◌≤◌, ◌+◌, ℕ, Err, Ok, Some, arith, refl, subst, sym}
use Rattle.hound.specs.{BeginningEffect, DoesBeginning, Ghosts, IsEmpty, WavSpecEx, beginning, nth}
use Rattle.hound.specs.declared.BeginningEffect.TheVariants.{Empty, SyncFolder}
use Rattle.hound.proofs.Begun.{nth_next}
use Rattle.hound_callers.proofs.recorder.+begin_from.Goals as goal

-- a file is empty before it is cut, since only the sync of a folder comes before that
abbrev IsEmptyBefore : {M : Type 0} → Ghosts M → ℕ → M → Type 0
IsEmptyBefore kind number m = number ≤ 1 → IsEmpty kind.keeps (kind.state m)

empty_at : (number : ℕ) (effect : BeginningEffect) → nth beginning number ≡ Some effect → effect ≡ Empty → number ≡ 1
empty_at number effect at is = grind (arith, common_steps)

folder_at : (number : ℕ) (effect : BeginningEffect) → nth beginning number ≡ Some effect → number ≡ 0
    → effect ≡ SyncFolder
folder_at number effect at is = grind (arith, common_steps)

-- what a sync of the folder leaves
empty_after : {M : Type 0} (kind : Ghosts M) (s : WavSpecEx) (number : ℕ) (effect : BeginningEffect) (old new : M)
    → nth beginning number ≡ Some effect → IsEmptyBefore kind number old
    → ((effect ≡ Empty → IsEmpty kind.keeps (kind.state old))
    → DoesBeginning kind.keeps s effect (Ok tt) (kind.state old) (kind.state new))
    → IsEmptyBefore kind (number + 1) new
empty_after kind s number effect old new at empty does few =
    let first : number ≡ 0 = omega (arith, few) in
    let folder = folder_at number effect at first in
    let did = does (λ is. let never : SyncFolder ≡ Empty = sym folder ∙ is in cc never) in
    let same : kind.state new ≡ kind.state old =
    subst (λ e. DoesBeginning kind.keeps s e (Ok tt) (kind.state old) (kind.state new)) folder did in
    subst (IsEmpty kind.keeps) (sym same) (empty (omega (arith, first)))

pub returns-in_err-perform_beginning-clause-does : goal.returns-in_err-perform_beginning-clause-does
returns-in_err-perform_beginning-clause-does g n c tells empty =
    let at = sym c.in-Ok-Some.ensures.1 ∙ c.in-Ok-Some.field-0-is in
    rw (nth_next beginning c.args.number c.in-Ok-Some.effect at) (
      g.M.Placed.state c.perform_beginning.new.medium,
      Err c.in_err-perform_beginning.field-0.0,
      c.in_err-perform_beginning.ensures.does tells (λ is. empty (omega (
        arith,
        empty_at c.args.number
            c.in-Ok-Some.effect at is,
      ))),
      (grind (arith, common_steps), refl),
    )

pub returns-clause-does : goal.returns-clause-does
returns-clause-does g n c tells empty =
    let at = sym c.in-Ok-Some.ensures.1 ∙ c.in-Ok-Some.field-0-is in
    rw (nth_next beginning c.args.number c.in-Ok-Some.effect at) (
      g.M.Placed.state c.perform_beginning.new.medium,
      Ok tt,
      c.in_ok-perform_beginning.ensures.does tells (λ is. empty (omega (
        arith,
        empty_at c.args.number
            c.in-Ok-Some.effect at is,
      ))),
      c.begin_from.ensures.does tells (empty_after g.M.Placed c.args.spec_ex c.args.number c.in-Ok-Some.effect
          c.args.medium.now c.perform_beginning.new.medium at empty (c.in_ok-perform_beginning.ensures.does tells)),
    )
