use Rattle.std.proofs.lemmas.Grind.{common_steps}
use Rattle.std.proofs.Common.{◌∙◌, None, Ok, Some, ap, arith, inl, length, refl, subst, sym}
use Rattle.std.specs.Prelude.{⊤}
use Rattle.hound.specs.{Advances, Recorder, Repeats, actions_left}
use Rattle.hound_callers.proofs.Driving.{
  DoesAction,
  IsWithin,
  KnownAt,
  at_rest,
  begins,
  laws_of,
  next_err,
  next_none,
  next_some,
  no_laws,
  not_failed,
  not_at_rest,
  one_at_most,
  settled_low,
  step_of,
}
use Rattle.hound_callers.proofs.Faultless.{
  FaultlessAt,
  fails_as,
  faultless_laws,
  faultless_not_failed,
  faults_add,
  is_error,
  is_performable,
  kept_next,
  no_fault_after,
  no_fault_before,
  within_data,
}
use Rattle.hound_callers.proofs.Mending.{PerformedAt, begins_effects, effect_laws, effects_not_failed}
use Rattle.hound_callers.proofs.Performing.{not_ok}
use Rattle.hound_callers.proofs.Repeating.{
  Again,
  all_done,
  begins_directed,
  come_again,
  comes,
  has_action,
  has_failed,
  is_tried,
  smaller,
}
use Rattle.hound_callers.proofs.recorder.perform_all.Goals as goal

pub loop-action-init : goal.loop-action-init
loop-action-init g c =
    let M = g.M.Placed in
    let within = begins c.args.recorder.now (length c.args.block.now) c.requires.asked in
    record {
      within = (None, within);
      action = inl refl;
      made = c.requires.within;
      directed = λ tells keeps s file known (once, d, repeats). begins_directed s file known c.args.recorder.now
          c.args.block.now once (M.state c.args.medium.now) within d repeats;
      performed = λ tells keeps start repeats one has. begins_effects c.args.recorder.now start c.args.block.now
          (M.state c.args.medium.now) one c.requires.asked.0 has within repeats;
      faults = λ tells least. (omega arith, least);
      faultless = λ has kept tells fine. ((λ never. cc never), (None, within, has));
    }

pub loop-action-preserved : goal.loop-action-preserved
loop-action-preserved g c =
    let asked = c.args.recorder.now in
    let (over, within) = c.loop-action.invariant.within in
    let next = rw c.in-Some.is at c.in_ok-action.ensures in
    let (o, w, k, goes) = next_some asked (length c.args.block.now) c.requires.asked c.loop-action.report
    (λ _ _. ⊤) (λ _ _. ⊤) (λ _. ⊤) (no_laws asked c.loop-action.report) c.loop-action.recorder c.next.new.self over
    c.in-Some.action within tt c.loop-action.invariant.action next in
    record {
      within = (o, w c.perform-report.result);
      action = has_action c.perform-report.result c.next.new.self c.in-Some.action goes;
      made = c.is_next_lost.ensures.within;
      directed = λ tells keeps s file known d. let M = g.M.Placed in
          let (before, end, over, within, k, has, still, way) = c.loop-action.invariant.directed tells keeps s file
          known d in
          let says = c.a_recorder_directs.ensures in
          let law = c.an_effect_may_be_repeated.ensures in
          let again : Again = record
          { begun = law.begun; again = law.again; written = law.written; synced = law.synced } in
          let laws = laws_of s file known asked c.args.block.now c.requires.asked c.loop-action.report before end
          (λ old mid new effect result modelled. says.performed s file known old mid new before end effect result
          modelled) (λ old new n result modelled d writing rest long. says.wrote s file known old new n before end
          c.args.block.now result modelled d writing rest long)
          (λ known old new ok modelled. says.cut s file known old new before ok modelled)
          (λ m old new place len. says.handed s file known old new m place len)
          (λ old new. says.saved s file known old new end.state) still in
          let (o, w, k, goes) = next_some asked (length c.args.block.now) c.requires.asked c.loop-action.report
          (λ o r. KnownAt s file known asked c.args.block.now before o r)
          (λ o r. KnownAt s file known asked c.args.block.now end.state o r)
          (λ action. DoesAction action c.args.block.now c.loop-action.report before end.state) laws
          c.loop-action.recorder c.next.new.self over c.in-Some.action within k has next in
          let was = is_tried again c.args.block.now c.loop-action.report
          c.loop-action.recorder c.next.new.self c.in-Some.action end.state _ way next in
          let (once, came) = comes again c.args.block.now c.in-Some.action
          c.perform-report.result end _ _ (g.met.M.Placed.bytes c.perform-report.new.medium tells) was
          (c.perform-report.ensures.tries tells keeps) in
          come_again (λ m over r. KnownAt s file known asked c.args.block.now m over r) asked c.args.block.now
          c.perform-report.result c.next.new.self c.in-Some.action o end.state once _ (w c.perform-report.result) k goes
          came;
      performed = λ tells keeps start repeats one has_data. let M = g.M.Placed in
          let (before, end, over, within, k, has, still, way) = c.loop-action.invariant.performed tells keeps start
          repeats one has_data in
          let law = c.an_effect_may_be_repeated.ensures in
          let again : Again = record
          { begun = law.begun; again = law.again; written = law.written; synced = law.synced } in
          let laws = effect_laws asked start one c.args.block.now c.loop-action.report before end still in
          let (o, w, k, goes) = next_some asked (length c.args.block.now) c.requires.asked c.loop-action.report
          (λ o r. PerformedAt asked start before o r) (λ o r. PerformedAt asked start end.state o r)
          (λ action. DoesAction action c.args.block.now c.loop-action.report before end.state) laws
          c.loop-action.recorder c.next.new.self over c.in-Some.action within k has next in
          let was = is_tried again c.args.block.now c.loop-action.report
          c.loop-action.recorder c.next.new.self c.in-Some.action end.state _ way next in
          let (once, came) = comes again c.args.block.now c.in-Some.action
          c.perform-report.result end _ _ (g.met.M.Placed.bytes c.perform-report.new.medium tells) was
          (c.perform-report.ensures.tries tells keeps) in
          come_again (λ m over r. PerformedAt asked start m over r) asked c.args.block.now
          c.perform-report.result c.next.new.self c.in-Some.action o end.state once _ (w c.perform-report.result) k goes
          came;
      faults = λ tells. let M = g.M.Placed in
          faults_add (M.state c.args.medium.now) (M.state c.loop-action.medium) (M.state c.perform-report.new.medium)
          (c.loop-action.invariant.faults tells) (c.perform-report.ensures.faults tells);
      faultless = λ has kept tells fine.
          let M = g.M.Placed in
          let before = c.loop-action.invariant.faults tells in
          let now = c.perform-report.ensures.faults tells in
          let (not_failed, (was, here, known)) =
          c.loop-action.invariant.faultless has kept tells (no_fault_before (M.state c.args.medium.now) (M.state
          c.loop-action.medium)
          (M.state c.perform-report.new.medium) before now fine) in
          let (o, w, k, goes) = next_some asked (length c.args.block.now) c.requires.asked c.loop-action.report
          FaultlessAt FaultlessAt (λ _. ⊤)
          (faultless_laws asked (length c.args.block.now) c.loop-action.report c.requires.asked not_failed)
          c.loop-action.recorder c.next.new.self was c.in-Some.action here known c.loop-action.invariant.action next in
          let done = c.perform-report.ensures.cause (kept_next c.args.lost.now c.loop-action.made
          (ap (λ b. b) c.is_next_lost.ensures.listed) kept)
          (is_performable asked c.next.new.self (length c.args.block.now) c.perform-report.result o c.in-Some.action
          c.requires.asked (w c.perform-report.result) k goes) tells (no_fault_after (M.state c.args.medium.now)
          (M.state c.loop-action.medium) (M.state c.perform-report.new.medium) before now fine) in (
            (λ failed. let both = sym done ∙ failed in cc both),
            (o, w c.perform-report.result, k),
          );
    }

pub loop-action-smaller : goal.loop-action-smaller
loop-action-smaller g c =
    let next = rw c.in-Some.is at c.in_ok-action.ensures in
    let law = c.a_request_ends.ensures in
    smaller c.is_next_lost.result (actions_left c.loop-action.recorder) (actions_left c.next.new.self)
    (step_of c.loop-action.report) (step_of c.perform-report.result) c.loop-action.made c.is_next_lost.new.made
    (length c.args.lost.now)
    (λ none. law.again _ _ c.in-Some.action
    (subst (λ r. Advances r c.loop-action.recorder c.next.new.self (Ok (Some c.in-Some.action)))
    (at_rest c.loop-action.report none) next))
    (λ one. law.nearer c.loop-action.report _ _ c.in-Some.action
    (λ pending. absurd (let none = ap step_of pending in omega (arith, none, one))) next)
    (one_at_most c.loop-action.report) c.is_next_lost.ensures.counted c.is_next_lost.ensures.grows
    c.is_next_lost.ensures.within
    (λ kept. not_at_rest c.perform-report.result (c.perform-report.ensures.ended kept))

pub returns-clause-done : goal.returns-clause-done
returns-clause-done g c = grind (arith, common_steps, next_none, no_laws)

pub returns-clause-directed : goal.returns-clause-directed
returns-clause-directed g c tells keeps s file known d =
    let (before, end, over, within, k, has, still, way) = c.loop-action.invariant.directed tells keeps s file known d in
    let says = c.a_recorder_directs.ensures in
    let law = c.an_effect_may_be_repeated.ensures in
    let again : Again = record { begun = law.begun; again = law.again; written = law.written; synced = law.synced } in
    let asked = c.args.recorder.now in
    let next = rw c.in_default.is at c.in_ok-action.ensures in
    let laws = laws_of s file known asked c.args.block.now c.requires.asked c.loop-action.report before end
    (λ old mid new effect result modelled. says.performed s file known old mid new before end effect result modelled)
    (λ old new n result modelled d writing rest long. says.wrote s file known old new n before end c.args.block.now
    result modelled d writing rest long) (λ known old new ok modelled. says.cut s file known old new before ok modelled)
    (λ m old new place len. says.handed s file known old new m place len)
    (λ old new. says.saved s file known old new end.state) still in
    let (is, k) = next_none asked (length c.args.block.now) c.requires.asked c.loop-action.report
    (λ o r. KnownAt s file known asked c.args.block.now before o r)
    (λ o r. KnownAt s file known asked c.args.block.now end.state o r)
    (λ action. DoesAction action c.args.block.now c.loop-action.report before end.state) laws
    c.loop-action.recorder c.next.new.self over within k has next in (
      ap (λ (x : Recorder). x.number) is,
      (
        end.state,
        k,
        all_done again c.args.block.now c.loop-action.report c.loop-action.recorder c.next.new.self
            end.state _ way next,
      ),
    )

pub returns-in_err-action-clause-directed : goal.returns-in_err-action-clause-directed
returns-in_err-action-clause-directed g c tells keeps s file known d =
    let (before, end, over, within, k, has, still, way) = c.loop-action.invariant.directed tells keeps s file known d in
    let says = c.a_recorder_directs.ensures in
    let law = c.an_effect_may_be_repeated.ensures in
    let again : Again = record { begun = law.begun; again = law.again; written = law.written; synced = law.synced } in
    let asked = c.args.recorder.now in
    let laws = laws_of s file known asked c.args.block.now c.requires.asked c.loop-action.report before end
    (λ old mid new effect result modelled. says.performed s file known old mid new before end effect result modelled)
    (λ old new n result modelled d writing rest long. says.wrote s file known old new n before end c.args.block.now
    result modelled d writing rest long) (λ known old new ok modelled. says.cut s file known old new before ok modelled)
    (λ m old new place len. says.handed s file known old new m place len)
    (λ old new. says.saved s file known old new end.state) still in
    let failed = not_failed s file known asked c.args.block.now c.requires.asked c.loop-action.report before end
    (λ known old new error. says.failed s file known old new end.state error) c.next.new.self
    c.in_err-action.field-0.0 in
    let (none, k2) = next_err asked (length c.args.block.now) c.requires.asked c.loop-action.report
    (λ o r. KnownAt s file known asked c.args.block.now before o r)
    (λ o r. KnownAt s file known asked c.args.block.now end.state o r)
    (λ action. DoesAction action c.args.block.now c.loop-action.report before end.state) laws
    c.loop-action.recorder c.next.new.self over c.in_err-action.field-0.0 failed within k has c.in_err-action.ensures in
    rw (not_ok c.from_residual.result c.from_residual.ensures.0) (
      none,
      (
        end.state,
        k2,
        has_failed again c.args.block.now c.loop-action.report c.loop-action.recorder
            c.next.new.self c.in_err-action.field-0.0 end.state _
            (λ pending.
            let alive = settled_low asked (length c.args.block.now) c.requires.asked c.loop-action.recorder over
            (inl (subst (λ x. IsWithin asked x c.loop-action.recorder over) pending within)) in (
              alive,
              failed over c.loop-action.recorder
                  (subst (λ m. KnownAt s file known asked c.args.block.now m over c.loop-action.recorder)
                  (sym (still pending)) k)
                  alive,
            ))
            way c.in_err-action.ensures,
      ),
    )

pub returns-clause-performed : goal.returns-clause-performed
returns-clause-performed g c tells keeps start repeats one has_data =
    let (before, end, over, within, k, has, still, way) = c.loop-action.invariant.performed tells keeps start repeats
    one has_data in
    let law = c.an_effect_may_be_repeated.ensures in
    let again : Again = record { begun = law.begun; again = law.again; written = law.written; synced = law.synced } in
    let asked = c.args.recorder.now in
    let next = rw c.in_default.is at c.in_ok-action.ensures in
    let laws = effect_laws asked start one c.args.block.now c.loop-action.report before end still in
    let (is, (idle, log, here, (result, ok, done))) = next_none asked (length c.args.block.now) c.requires.asked
    c.loop-action.report (λ o r. PerformedAt asked start before o r) (λ o r. PerformedAt asked start end.state o r)
    (λ action. DoesAction action c.args.block.now c.loop-action.report before end.state) laws
    c.loop-action.recorder c.next.new.self over within k has next in (
      log,
      result,
      ok,
      done,
      subst (λ m. Repeats m (g.M.Placed.state c.loop-action.medium)) (sym here)
          (all_done again c.args.block.now c.loop-action.report c.loop-action.recorder
          c.next.new.self end.state _ way next),
    )

pub returns-in_err-action-clause-performed : goal.returns-in_err-action-clause-performed
returns-in_err-action-clause-performed g c tells keeps start repeats one has_data =
    let (before, end, over, within, k, has, still, way) = c.loop-action.invariant.performed tells keeps start repeats
    one has_data in
    let law = c.an_effect_may_be_repeated.ensures in
    let again : Again = record { begun = law.begun; again = law.again; written = law.written; synced = law.synced } in
    let asked = c.args.recorder.now in
    let laws = effect_laws asked start one c.args.block.now c.loop-action.report before end still in
    let failed = effects_not_failed asked start end.state c.next.new.self c.in_err-action.field-0.0 in
    let (none, (idle, log, here, (result, bad, done))) = next_err asked (length c.args.block.now) c.requires.asked
    c.loop-action.report (λ o r. PerformedAt asked start before o r) (λ o r. PerformedAt asked start end.state o r)
    (λ action. DoesAction action c.args.block.now c.loop-action.report before end.state) laws
    c.loop-action.recorder c.next.new.self over c.in_err-action.field-0.0 failed within k has c.in_err-action.ensures in
    rw (not_ok c.from_residual.result c.from_residual.ensures.0) (
      log,
      result,
      bad,
      done,
      subst (λ m. Repeats m (g.M.Placed.state c.loop-action.medium)) (sym here)
          (has_failed again c.args.block.now c.loop-action.report c.loop-action.recorder
          c.next.new.self c.in_err-action.field-0.0 end.state _
          (λ pending.
          let alive = settled_low asked (length c.args.block.now) c.requires.asked c.loop-action.recorder over
          (inl (subst (λ x. IsWithin asked x c.loop-action.recorder over) pending within)) in (
            alive,
            failed over c.loop-action.recorder
                (subst (λ m. PerformedAt asked start m over c.loop-action.recorder) (sym (still pending)) k)
                alive,
          ))
          way c.in_err-action.ensures),
    )

pub returns-clause-faults : goal.returns-clause-faults
returns-clause-faults g c tells = c.loop-action.invariant.faults tells

pub returns-in_err-action-clause-faults : goal.returns-in_err-action-clause-faults
returns-in_err-action-clause-faults g c tells = c.loop-action.invariant.faults tells

pub returns-in_err-action-clause-cause : goal.returns-in_err-action-clause-cause
returns-in_err-action-clause-cause g c has kept tells fine =
    let asked = c.args.recorder.now in
    let (not_failed, (was, here, known)) = c.loop-action.invariant.faultless has kept tells fine in
    let (none, never) = next_err asked (length c.args.block.now) c.requires.asked c.loop-action.report
    FaultlessAt FaultlessAt (λ _. ⊤)
    (faultless_laws asked (length c.args.block.now) c.loop-action.report c.requires.asked not_failed)
    c.loop-action.recorder c.next.new.self was c.in_err-action.field-0.0
    (faultless_not_failed c.next.new.self c.in_err-action.field-0.0) here known c.loop-action.invariant.action
    c.in_err-action.ensures in absurd never

pub returns-in_err-action-clause-error : goal.returns-in_err-action-clause-error
returns-in_err-action-clause-error g c has =
    let (over, within) = c.loop-action.invariant.within in
    rw (is_error _ _ c.from_residual.ensures.1) (fails_as c.loop-action.report c.loop-action.recorder c.next.new.self
    c.in_err-action.field-0.0 (within_data c.args.recorder.now c.loop-action.recorder c.loop-action.report over within
    has)
    c.in_err-action.ensures)
