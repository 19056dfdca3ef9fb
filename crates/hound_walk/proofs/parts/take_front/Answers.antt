use Rattle.std.proofs.Common.{◌≡◌, ℕ, inl, subst, sym, ◌∙◌, Some}
use Rattle.hound_walk.specs.Grammar.{front_fault}
use Rattle.hound_walk.proofs.PartLemmas.{caused, front_fault_of, front_walked, rejects_at}
use Rattle.hound_walk.proofs.parts.take_front.Goals as goal

pub returns-in-Ok-clause-leads : goal.returns-in-Ok-clause-leads
returns-in-Ok-clause-leads c = λ file is.
    let (size, four, e, n) = c.in-Ok.ensures.ok in front_walked file size _ (sym is ∙ e) four

pub returns-in-Err-clause-leads : goal.returns-in-Err-clause-leads
returns-in-Err-clause-leads c = λ file is. let e = c.in-Err.error in
    let cause = c.cause_of.result in
    let at = caused ℕ e cause c.in-Err.ensures.failures c.cause_of.ensures in
    inl (front_fault_of file cause (subst (λ l. front_fault l ≡ Some cause) is
    (rejects_at e cause (λ d. front_fault c.args.bytes.now ≡ Some d) at c.in-Err.ensures.err)))
