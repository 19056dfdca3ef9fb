use Rattle.std.proofs.Common.{◌≡◌, Ok, Err, inl, inr, refl, sym, subst, rules}
use Rattle.hound_repair.specs.Steps.{AsksNext, MeasuresTo}
use Rattle.hound_repair.specs.declared.stages.Unrepairable.{Unrepairable}
use Rattle.hound_repair.specs.declared.machine.RepairError.TheVariants.{Rejected as rejected}
use Rattle.hound_repair.specs.declared.machine.RepairStep.TheVariants.{Found}
use Rattle.hound_repair.proofs.Stepping.{mapped_ok}
use Rattle.hound_repair.proofs.machine.repair_next.Goals as goal

pub returns-in_ok-damage-in-Mends-clause-next : goal.returns-in_ok-damage-in-Mends-clause-next
returns-in_ok-damage-in-Mends-clause-next c =
    let is = mapped_ok _ _ _ _ c.in_ok-damage-in-Mends.ensures.variant c.in_ok-damage-in-Mends.ensures.cases in
    let seen = c.measured.ensures in
    subst (λ old. AsksNext c.args.task c.args.length c.args.bytes.now c.args.report old c.after_effect.new.state
    c.after_effect.result)
    (sym c.in-Mends.is)
    (inl (
      c.in_ok-damage-in-Mends.damage,
      rw is at seen.sound,
      rw is at seen.unfollowed,
      rw is at seen.head,
      c.after_effect.ensures.asks,
      λ file size head shown. rw is at (seen.measures file size head shown),
    ))

pub returns-in_ok-damage-in-Found-clause-next : goal.returns-in_ok-damage-in-Found-clause-next
returns-in_ok-damage-in-Found-clause-next c =
    let is = mapped_ok _ _ _ _ c.in_ok-damage-in-Found.ensures.variant c.in_ok-damage-in-Found.ensures.cases in
    let seen = c.measured-in-Found.ensures in
    subst (λ old. AsksNext c.args.task c.args.length c.args.bytes.now c.args.report old old
    (Ok (Found (record c.in_ok-damage-in-Found.damage { state = c.in-Found.found }))))
    (sym c.in-Found.is) (
      refl,
      inl (
        c.in_ok-damage-in-Found.damage,
        rw is at seen.sound,
        rw is at seen.unfollowed,
        rw is at seen.head,
        refl,
        λ file size head shown. rw is at (seen.measures file size head shown),
      ),
    )

pub returns-in_err-damage-in-Mends-clause-next : goal.returns-in_err-damage-in-Mends-clause-next
returns-in_err-damage-in-Mends-clause-next c =
    let found : (why : Unrepairable) × (c.measured.result ≡ Err why) × (c.from_residual.result ≡ Err (rejected why)) =
    search rules in
    subst (λ old. AsksNext c.args.task c.args.length c.args.bytes.now c.args.report old old c.from_residual.result)
    (sym c.in-Mends.is)
    (inr (
      found.0,
      found.2,
      refl,
      λ file size head shown. subst (MeasuresTo file) found.1 (c.measured.ensures.measures file size head shown),
    ))

pub returns-in_err-damage-in-Found-clause-next : goal.returns-in_err-damage-in-Found-clause-next
returns-in_err-damage-in-Found-clause-next c =
    let found : (why : Unrepairable) × (c.measured-in-Found.result ≡ Err why)
    × (c.from_residual-in_err-damage-in-Found.result ≡ Err (rejected why)) = search rules in
    subst (λ old. AsksNext c.args.task c.args.length c.args.bytes.now c.args.report old old
    c.from_residual-in_err-damage-in-Found.result)
    (sym c.in-Found.is) (
      refl,
      inr (
        found.0,
        found.2,
        refl,
        λ file size head shown.
            subst (MeasuresTo file) found.1 (c.measured-in-Found.ensures.measures file size head shown),
      ),
    )
