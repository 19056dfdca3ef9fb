use Rattle.std.proofs.Common.{◌≡◌, ℕ, List, drop, take, sym, subst, ap, ◌∙◌}
use Rattle.hound.specs.{AreBytes, FollowError, FollowStep, FollowsNext, moment, requested_by}
use Rattle.hound.specs.declared.Report.TheVariants.{Done}
use Rattle.hound_callers.proofs.following.step_at.Goals as goal

pub returns-clause-steps : goal.returns-clause-steps
returns-clause-steps c =
    let is = c.deref.ensures.value ∙ c.in_ok-bytes.ensures.moment in
    let asked = c.request-place.ensures in
    let part = c.part_of.ensures.part ∙ (λ i. take ((asked i).1) (drop ((asked i).0) (is i))) in (
      subst AreBytes is c.part_of.ensures.bytes,
      c.next.result,
      subst (λ l. FollowsNext Done l c.args.follower.now c.next.new.self c.next.result) part c.next.ensures.steps,
    )
