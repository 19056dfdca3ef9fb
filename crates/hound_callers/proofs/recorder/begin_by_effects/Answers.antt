use Rattle.std.proofs.Common.{◌∙◌, ◌≡◌, ◌&&◌, Err, None, Ok, Option, List, Result, Some, ℕ, false, is_ok, subst, sym}
use Rattle.std.specs.declared.io.Error.{Error as IoFault}
use Rattle.hound.specs.{IsEmpty, LeavesBeginning, Remains, WavSpecEx, beginning, stores_name}
use Rattle.hound_callers.proofs.Performing.{not_ok}
use Rattle.hound_callers.proofs.recorder.begin_by_effects.Goals as goal

pub returns-then-not-is_writable-clause-survives : goal.returns-then-not-is_writable-clause-survives
returns-then-not-is_writable-clause-survives g c writable =
    let is = c.is_writable.ensures.1 writable in absurd (cc (c.if-not-is_writable.true, is))

-- what is left hangs only on whether it is begun
begins_as : {T E : Type 0} (fault : IoFault) (result : Result T E) (s : WavSpecEx) (left : Option (List ℕ))
    → is_ok result ≡ false → LeavesBeginning {T = Unit {0}} (Err fault) s left → LeavesBeginning result s left
begins_as fault result s None failed leaves = failed
begins_as fault result s (Some left) failed leaves = leaves

pub returns-in_err-begin_from-clause-survives : goal.returns-in_err-begin_from-clause-survives
returns-in_err-begin_from-clause-survives g c writable tells keeps empty sector left lost =
    let M = g.M.Placed in
    let old = c.args.medium.now in
    let failed : is_ok c.from_residual.result ≡ false = not_ok c.from_residual.result c.from_residual.ensures.0 in
    begins_as c.in_err-begin_from.field-0.0 c.from_residual.result c.args.spec_ex left failed
    (c.a_recording_is_kept.ensures.begun c.args.spec_ex (M.state old) (M.state c.begin_from.new.medium)
    (Err c.in_err-begin_from.field-0.0) (sym (g.met.M.Medium.replays old tells keeps) ∙ empty.contents)
    (rw keeps at (c.in_err-begin_from.ensures.does tells (λ few. subst (λ k. IsEmpty k (M.state old)) (sym keeps)
    empty)))
    sector left (subst (λ b. Remains (b && stores_name beginning) sector (M.state c.begin_from.new.medium) left) failed
    lost))

pub returns-clause-opened : goal.returns-clause-opened
returns-clause-opened g c = (
  c.is_writable.ensures.0 c.if-not-is_writable.false,
  λ tells empty. c.in_ok-begin_from.ensures.does tells (λ few.
      empty),
)

pub returns-clause-survives : goal.returns-clause-survives
returns-clause-survives g c writable tells keeps empty sector left lost =
    let M = g.M.Placed in
    let old = c.args.medium.now in
    c.a_recording_is_kept.ensures.begun c.args.spec_ex (M.state old) (M.state c.begin_from.new.medium)
    (Ok tt) (sym (g.met.M.Medium.replays old tells keeps) ∙ empty.contents)
    (rw keeps at (c.in_ok-begin_from.ensures.does tells (λ few. subst (λ k. IsEmpty k (M.state old)) (sym keeps)
    empty)))
    sector left lost
