use Rattle.std.proofs.Common.{Ok, IfOk, inl, inr, refl, subst, ap, ◌∙◌}
use Rattle.hound_repair.specs.Steps.{AreEnough, IsLookFrom, IsSoundLook, LooksTo, StageNearer, looks_for_chunks, steps_left}
use Rattle.hound_repair.specs.declared.machine.RepairStep.TheVariants.{Asks}
use Rattle.hound_repair.proofs.Stepping.{mapped_ok}
use Rattle.hound_repair.proofs.machine.after_part.Goals as goal

pub returns-in-Next-clause-leads : goal.returns-in-Next-clause-leads
returns-in-Next-clause-leads c =
    let led = mapped_ok _ _ _ _ c.in_ok-next.ensures.variant c.in_ok-next.ensures.cases in
    let is = led ∙ ap Ok c.in-Next.is in
    let n = c.args.length in (
      subst (λ r. IfOk r (λ _. AreEnough c.args.length c.args.stage c.args.bytes.now)) is c.take_asked.ensures.enough,
      inl (
        c.in-Next.next,
        refl,
        ap Asks c.action.ensures,
        subst (λ r. IfOk r (StageNearer n (steps_left n c.args.stage))) is c.take_asked.ensures.nearer,
        subst (λ r. IfOk r (IsLookFrom n c.args.bytes.now c.args.stage)) is c.take_asked.ensures.from,
        λ file size at read.
            subst (LooksTo (looks_for_chunks c.args.task) file) is (c.take_asked.ensures.leads file size at read),
      ),
    )

pub returns-in-Found-clause-leads : goal.returns-in-Found-clause-leads
returns-in-Found-clause-leads c =
    let led = mapped_ok _ _ _ _ c.in_ok-next.ensures.variant c.in_ok-next.ensures.cases in
    let is = led ∙ ap Ok c.in-Found.is in (
      subst (λ r. IfOk r (λ _. AreEnough c.args.length c.args.stage c.args.bytes.now)) is c.take_asked.ensures.enough,
      inr (
        c.in-Found.damage,
        subst (λ r. IfOk r IsSoundLook) is c.take_asked.ensures.sound,
        subst (λ r. IfOk r (IsLookFrom c.args.length c.args.bytes.now c.args.stage)) is c.take_asked.ensures.from,
        c.ask_for.ensures.asks,
        λ file size at read.
            subst (LooksTo (looks_for_chunks c.args.task) file) is (c.take_asked.ensures.leads file size at read),
      ),
    )
