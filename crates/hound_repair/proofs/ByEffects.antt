-- What a repair by effects leaves of a medium.
use Rattle.std.proofs.lemmas.Grind.{common_steps}
use Rattle.std.proofs.Common.{◌≡◌, ℕ, ◌-◌, ◌≤◌, ◌<◌, ◌^◌, Bool, IsTrue, true, false, not, List, length, inl, inr, Result, Ok, Err, refl, sym, ap, ◌∙◌, subst, arith}
use Rattle.std.specs.declared.io.Error.{Error as IoFault}
use Rattle.hound_number.specs.{AreBytes}
use Rattle.hound_spec.specs.declared.error.Error.{Error}
use Rattle.hound_spec.specs.declared.error.Error.TheVariants.{IoError}
use Rattle.hound_medium.specs.{MediumState, moment, one_more, overlay}
use Rattle.hound_writer.specs.{PutsNothing}
use Rattle.hound_writer.proofs.Heads.{head_beyond, head_inside}
use Rattle.hound_repair.specs.Repairing.{FindsDamage, IsSoundDamage, repair_of, IsNotFound, IsRepairFault, Repairs, is_mended}
use Rattle.hound_repair.specs.Held.{held}
use Rattle.hound_repair.specs.Steps.{IsNotRepaired, IsRejectedFor, IsRepair, LeavesMended, MendsAtEach, MendsThroughLoss, PartlyMended, PerformedOn, effects_of_task, effects_where, looks_for_chunks, mending, mending_effects, mends_for, rejected_for}
use Rattle.hound_repair.specs.declared.look.Damage.{Damage}
use Rattle.hound_repair.specs.declared.stages.Task.{Task}
use Rattle.hound_writer.specs.declared.resuming.RepairState.{RepairState}
use Rattle.hound_writer.specs.declared.resuming.RepairState.TheVariants.{HasChunksAfterData}
use Rattle.hound_repair.specs.declared.stages.Unrepairable.{Unrepairable}
use Rattle.hound_repair.proofs.Lost.{first_sector, kept_loss, mending_is_safe, same_sector, survives}
use Rattle.hound_repair.proofs.Mending.{length_is, put_ok, repairs_kept}
use Rattle.hound_repair.proofs.Performing.{allowed, faults_of, mends, spans}
use Rattle.hound_repair.proofs.RightSizes.{length_fits, mended_apart}

truth : {b : Bool} → IsTrue b → b ≡ true
truth {b = b} kept = grind (arith, common_steps)

-- the fault of the bytes
pub fault_of : (why : Unrepairable) (bytes : List ℕ) → IsRejectedFor bytes why → IsRepairFault bytes (rejected_for why)
fault_of why bytes is = grind (arith, common_steps)

-- where nothing is found nothing is repaired
pub not_by : (looks : Bool) (outcome : Error) (old new : MediumState)
    → IsNotFound old new outcome → IsNotRepaired looks old new outcome
not_by looks outcome old new not = grind (arith, common_steps)

-- what a repair mends
pub repair_mends : (task : Task) (state : RepairState) → IsRepair task
    → mends_for task state ≡ is_mended (not (looks_for_chunks task)) state
repair_mends task state given = grind (arith, common_steps)

-- what a task performed, by whether the file is mended
pub as_mended : (keeps : Bool) (d : Damage) (task : Task) (result : Result (Unit {0}) IoFault) (old new : MediumState)
    → IsRepair task → PerformedOn keeps (effects_of_task task d) result old new
    → PerformedOn keeps (effects_where (is_mended (not (looks_for_chunks task)) d.state) d) result old new
as_mended keeps d task result old new is performed = grind (arith, common_steps)

module _ (looks keeps : Bool) (old mid new : MediumState) (d : Damage) (sound : IsSoundDamage d)
    (finds : FindsDamage looks old d mid) (small : AreBytes mid.contents) where
  abbrev start : ℕ
  start = d.head.data_start

  abbrev n : ℕ
  n = d.sizes.data_length

  apart_by : is_mended (not looks) d.state ≡ true → d.state ≡ HasChunksAfterData → ⊥
  apart_by = mended_apart (not looks) d.state

  fits : is_mended (not looks) d.state ≡ true → n < 2 ^ 32
  fits put =
      subst (λ k. k < 2 ^ 32) (sym (length_is d sound (apart_by put)))
      (length_fits looks old.contents (repair_of d) d.head.data_length start finds.found (apart_by put))

  mends_mid : (result : Result (Unit {0}) IoFault) → is_mended (not looks) d.state ≡ true
      → PerformedOn keeps (mending d) result mid new → LeavesMended start n result mid.contents new
  mends_mid result put performed =
      let same = finds.puts.stays.contents in
      mends keeps start n mid.contents
      (head_beyond old.contents d.head.spec_ex d.head.data_length start finds.found.head)
      (omega (arith, ap length same, head_inside old.contents d.head.spec_ex d.head.data_length start finds.found.head))
      small (fits put) result mid new refl
      (subst (λ h. PerformedOn keeps (mending_effects start n h) result mid new)
      (finds.held_is ∙ ap (λ c. held start c) (sym same)) performed)

  -- nothing is done to a file that isn't mended
  left_alone : new ≡ mid → is_mended (not looks) d.state ≡ false → Repairs looks old (repair_of d) new
  left_alone same kept =
      repairs_kept looks old new (repair_of d) d.head.data_length start finds.found sound.spec kept
      (subst (PutsNothing old) (sym same) finds.puts)
      (ap (λ (m : MediumState). m.faults) same ∙ finds.faults)

  done_as : (put : Bool) → is_mended (not looks) d.state ≡ put → PerformedOn keeps (effects_where put d) (Ok tt) mid new
      → Repairs looks old (repair_of d) new
  done_as true is all =
      let did = (mends_mid (Ok tt) is all).1 refl in
      put_ok looks old mid new d sound finds is did.0 did.1 (faults_of keeps (mending d) (Ok tt) mid new all)
  done_as false is (ok, same) = left_alone same is

  pub done_by : PerformedOn keeps (effects_where (is_mended (not looks) d.state) d) (Ok tt) mid new
      → Repairs looks old (repair_of d) new
  done_by all = done_as (is_mended (not looks) d.state) refl all

  stopped_as : (put : Bool) (e : IoFault) → is_mended (not looks) d.state ≡ put
      → PerformedOn keeps (effects_where put d) (Err e) mid new
      → IsNotRepaired looks old new (IoError e)
  stopped_as true e is all =
      let partly = (mends_mid (Err e) is all).0 in
      record {
        why = inr (
          tt,
          inr (
            repair_of d,
            d.head.data_length,
            start,
            finds.found,
            is,
            subst (λ k. PartlyMended start k old.contents new.contents) (length_is d sound (apart_by is))
                (subst (λ c. PartlyMended start n c new.contents) finds.puts.stays.contents partly),
          ),
          faults_of keeps (mending d) (Err e) mid new all ∙ ap one_more finds.faults,
        );
      }
  stopped_as false e is (ok, same) = absurd (cc ok)

  pub stopped_by : (e : IoFault) → PerformedOn keeps (effects_where (is_mended (not looks) d.state) d) (Err e) mid new
      → IsNotRepaired looks old new (IoError e)
  stopped_by e all = stopped_as (is_mended (not looks) d.state) e refl all

  -- what each intermediate state is
  moments_as : (put : Bool) (result : Result (Unit {0}) IoFault) → is_mended (not looks) d.state ≡ put
      → mid.contents ≡ overlay mid.start mid.past
      → PerformedOn true (effects_where put d) result mid new
      → MendsAtEach looks old new
  moments_as true result is replays left =
      let same = finds.puts.stays.contents in
      let span = spans (PartlyMended start n mid.contents) (mending_effects start n (held start mid.contents)) result
      mid new (allowed true start n mid.contents
      (head_beyond old.contents d.head.spec_ex d.head.data_length start finds.found.head)
      (omega (arith, ap length same, head_inside old.contents d.head.spec_ex d.head.data_length start finds.found.head))
      small (fits is)) replays (subst (λ h. PerformedOn true (mending_effects start n h) result mid new)
      (finds.held_is ∙ ap (λ c. held start c) (sym same)) left) in
      inr (
        repair_of d,
        d.head.data_length,
        start,
        finds.found,
        is,
        λ k from to. subst (λ i. PartlyMended start i old.contents (moment new.start new.past k))
            (length_is d sound (apart_by is))
            (subst (λ c. PartlyMended start n c (moment new.start new.past k)) same
            (span.each k (omega (arith, from, ap length finds.puts.stays.past)) to)),
      )
  moments_as false result is replays (ok, same) =
      inl (ap (λ (m : MediumState). m.past) same ∙ finds.puts.stays.past)

  pub moments_by : (result : Result (Unit {0}) IoFault) → IsTrue keeps → mid.contents ≡ overlay mid.start mid.past
      → PerformedOn keeps (effects_where (is_mended (not looks) d.state) d) result mid new
      → MendsAtEach looks old new
  moments_by result kept replays performed = grind (arith, common_steps, not, truth, moments_as)

  -- what a loss of power leaves
  lost_as : (put : Bool) (result : Result (Unit {0}) IoFault) → is_mended (not looks) d.state ≡ put
      → mid.contents ≡ overlay mid.start mid.past → PerformedOn true (effects_where put d) result mid new
      → MendsThroughLoss looks old new
  lost_as true result is replays left sector contents settled wide lost =
      let same = finds.puts.stays.contents in
      let beyond = head_beyond old.contents d.head.spec_ex d.head.data_length start finds.found.head in
      let inside : start ≤ length mid.contents = omega (
        arith,
        ap length same,
        head_inside old.contents d.head.spec_ex d.head.data_length start finds.found.head,
      ) in
      inr (
        repair_of d,
        d.head.data_length,
        start,
        finds.found,
        is,
        λ one. subst (λ i. PartlyMended start i old.contents contents) (length_is d sound (apart_by is))
            (subst (λ c. PartlyMended start n c contents) same
            (survives sector contents (PartlyMended start n mid.contents)
            (mending_effects start n (held start mid.contents))
            result mid new (allowed true start n mid.contents beyond inside small (fits is))
            (mending_is_safe sector contents start n mid.contents beyond inside
            (λ i few. same_sector (start - 4) (start - 1) i sector (omega (arith, wide)) (omega (arith, beyond, few))
            one)
            (λ i few. first_sector i sector few wide))
            replays (finds.puts.flushed ∙ settled ∙ sym (ap length finds.puts.stays.past))
            (subst (λ h. PerformedOn true (mending_effects start n h) result mid new)
            (finds.held_is ∙ ap (λ c. held start c) (sym same)) left) lost)),
      )
  lost_as false result is replays (ok, same) sector contents settled wide lost =
      inl (kept_loss sector contents mid new (subst (PutsNothing mid) (sym same)
      (record { stays = record { contents = refl; start = refl; past = refl }; flushed = refl }))
      replays (finds.puts.flushed ∙ settled ∙ sym (ap length finds.puts.stays.past)) lost
      ∙ finds.puts.stays.contents)

  pub lost_by : (result : Result (Unit {0}) IoFault) → IsTrue keeps → mid.contents ≡ overlay mid.start mid.past
      → PerformedOn keeps (effects_where (is_mended (not looks) d.state) d) result mid new
      → MendsThroughLoss looks old new
  lost_by result kept replays performed =
      lost_as (is_mended (not looks) d.state) result refl replays
      (subst (λ k. PerformedOn k (effects_where (is_mended (not looks) d.state) d) result mid new) (truth kept)
      performed)
