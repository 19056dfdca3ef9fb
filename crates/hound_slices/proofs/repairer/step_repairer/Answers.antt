use Rattle.std.proofs.lemmas.Grind.{common_steps}
use Rattle.std.proofs.Common.{◌≡◌, Err, Ok, refl, sym, subst, ap, ◌∙◌, arith, rules}
use Rattle.hound_repair.specs.{StaysAt}
use Rattle.hound_repair.specs.declared.machine.RepairError.TheVariants.{Failed, Rejected}
use Rattle.hound_repair.specs.declared.machine.RepairStep.TheVariants.{Asks, Found}
use Rattle.hound_slices.specs.Codes.{error_of_rejection}
use Rattle.hound_slices.proofs.Stepped.{gives_for, step_is}
use Rattle.hound_slices.proofs.repairer.step_repairer.Goals as goal

pub returns-in-Ok-Asks-clause-steps : goal.returns-in-Ok-Asks-clause-steps
returns-in-Ok-Asks-clause-steps c = record {
  step = c.repair_next-step.result;
  next = step_is _ _ _ _ _ _ _ _ _ _ _ _ c.task_of-task.ensures (grind (arith, common_steps)) c.report_of.ensures
      c.repairing_of-state.ensures.is (sym c.repairer_for_c.ensures.is) c.repair_next-step.ensures.next;
  gives = gives_for _ _ _ _ _ _ _ (let is : c.repair_next-step.result ≡ Ok (Asks c.in-Ok-Asks.action) = search rules in
      is)
      (refl, c.repairer_for_c.ensures.effect, refl);
  length = c.repairer_for_c.ensures.length;
  mode = c.repairer_for_c.ensures.mode;
  numbers = λ _. c.repairer_for_c.ensures.numbers;
}

pub returns-in-Ok-Found-clause-steps : goal.returns-in-Ok-Found-clause-steps
returns-in-Ok-Found-clause-steps c =
    let seen = c.repair_for_c.ensures in
    record {
      step = c.repair_next-step.result;
      next = step_is _ _ _ _ _ _ _ _ _ _ _ _ c.task_of-task.ensures (grind (arith, common_steps)) c.report_of.ensures
          c.repairing_of-state.ensures.is (sym c.repairer_for_c-in-Ok-Found.ensures.is) c.repair_next-step.ensures.next;
      gives = gives_for _ _ _ _ _ _ _
          (let is : c.repair_next-step.result ≡ Ok (Found c.in-Ok-Found.damage) = search rules in is) (
            refl,
            c.repairer_for_c-in-Ok-Found.ensures.effect,
            seen.reported,
            seen.start,
            seen.says,
            seen.length,
            seen.counted,
          );
      length = c.repairer_for_c-in-Ok-Found.ensures.length;
      mode = c.repairer_for_c-in-Ok-Found.ensures.mode;
      numbers = λ _. c.repairer_for_c-in-Ok-Found.ensures.numbers;
    }

pub returns-in-Err-Failed-clause-steps : goal.returns-in-Err-Failed-clause-steps
returns-in-Err-Failed-clause-steps c = record {
  step = c.repair_next-step.result;
  next = step_is _ _ _ _ _ _ _ _ _ _ _ _ c.task_of-task.ensures (grind (arith, common_steps)) c.report_of.ensures
      c.repairing_of-state.ensures.is (sym c.repairer_for_c-in-Err-Failed.ensures.is) c.repair_next-step.ensures.next;
  gives = gives_for _ _ _ _ _ _ _
      (let is : c.repair_next-step.result ≡ Err (Failed c.in-Err-Failed.failure) = search rules in is)
      (ap Err c.error_of.ensures, c.repairer_for_c-in-Err-Failed.ensures.effect, refl);
  length = c.repairer_for_c-in-Err-Failed.ensures.length;
  mode = c.repairer_for_c-in-Err-Failed.ensures.mode;
  numbers = λ _. c.repairer_for_c-in-Err-Failed.ensures.numbers;
}

pub returns-in-Err-Rejected-clause-steps : goal.returns-in-Err-Rejected-clause-steps
returns-in-Err-Rejected-clause-steps c =
    let is : c.repair_next-step.result ≡ Err (Rejected c.in-Err-Rejected.why) = search rules in
    let stays = subst (λ r. StaysAt r c.repairing_of-state.result c.repair_next-step.new.state) is
    c.repair_next-step.ensures.stays in
    record {
      step = c.repair_next-step.result;
      next = step_is _ _ _ _ _ _ _ _ _ _ _ _ c.task_of-task.ensures (grind (arith, common_steps)) c.report_of.ensures
          c.repairing_of-state.ensures.is (stays ∙ c.repairing_of-state.ensures.is) c.repair_next-step.ensures.next;
      gives = gives_for _ _ _ _ _ _ _ is
          (let e : c.into.result ≡ error_of_rejection c.in-Err-Rejected.why = search rules in ap Err e, refl, refl);
      length = refl;
      mode = refl;
      numbers = λ numbers. numbers;
    }
