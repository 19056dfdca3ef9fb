use Rattle.std.proofs.lemmas.Result.{err_from_is_err_and}
use Rattle.std.proofs.Common.{◌≡◌, IsTrue, Ok, Err, length, take, refl, sym, ap, ◌∙◌, subst, arith}
use Rattle.hound.specs.{IsUnderRepair, asks_for, effects_left, first_stage}
use Rattle.hound.specs.declared.RepairStep.TheVariants.{Asks, Found}
use Rattle.hound.specs.declared.Repairing.TheVariants as states
use Rattle.hound.specs.declared.Report.TheVariants.{Failed}
use Rattle.hound_callers.proofs.Requesting.{fewer_left, goes_on, lost_report, no_fault, not_repaired, reported_rest}
use Rattle.hound_callers.proofs.repairer.repair_by_requests.Goals as goal

pub requests-init : goal.requests-init
requests-init g c =
    let old = g.M.Placed.state c.args.medium.now in
    record {
      sound = c.first.ensures.sound;
      within = omega arith;
      waits = λ tells. (
        old,
        asks_for first_stage c.args.length,
        subst (λ s. IsUnderRepair c.args.task c.args.length old (states.Looks s)
            (Ok (Asks (asks_for first_stage c.args.length))) old) (sym c.first.ensures.is)
            (c.a_repairer_repairs.ensures.begins c.args.task c.args.length old),
        record { stays = record { contents = refl; start = refl; past = refl }; flushed = refl },
      );
      faults = λ tells reported. (reported, refl);
    }

pub returns-in_err-action-clause-rejected : goal.returns-in_err-action-clause-rejected
returns-in_err-action-clause-rejected g c =
    let p = err_from_is_err_and c.from_residual.result c.from_residual.ensures.1 in
    let e = c.in_err-action.field-0.0 in
    let M = g.M.Placed in
    let task = c.args.task in
    let n = c.args.length in
    let old = M.state c.args.medium.now in
    let now = M.state c.requests.medium in
    let law = c.a_repairer_repairs.ensures in
    rw (p.1 ∙ ap Err p.2) (λ tells.
    let small = g.met.M.Placed.bytes c.args.medium.now tells in
    let (mid, action, under, did) = c.requests.invariant.waits tells in
    let is = law.goes_on M.keeps task n old mid now c.requests.state c.repair_next.new.state action _ c.requests.report
    (Err e) small (c.requires tells) under did c.in_err-action.ensures.next in
    not_repaired task n old mid now c.requests.state c.repair_next.new.state action c.requests.report c.args.lost.now e
    (λ why at. law.rejected task n old now c.repair_next.new.state why at)
    (λ failure at. law.failed task n old now c.repair_next.new.state failure small at)
    (λ failure e_is. c.a_repair_ends.ensures.failed task n _ c.requests.report c.requests.state c.repair_next.new.state
    failure (rw e_is at c.in_err-action.ensures.next))
    under is (λ reported. (c.requests.invariant.faults tells reported).1))

pub returns-in-Found-clause-found : goal.returns-in-Found-clause-found
returns-in-Found-clause-found g c = λ tells.
    let M = g.M.Placed in
    let task = c.args.task in
    let n = c.args.length in
    let old = M.state c.args.medium.now in
    let now = M.state c.requests.medium in
    let law = c.a_repairer_repairs.ensures in
    let d = c.in-Found.damage in
    let small = g.met.M.Placed.bytes c.args.medium.now tells in
    let next = rw c.in-Found.is at c.in_ok-action.ensures.next in
    let (mid, action, under, did) = c.requests.invariant.waits tells in
    let is = law.goes_on M.keeps task n old mid now c.requests.state c.repair_next.new.state action _ c.requests.report
    (Ok (Found d)) small (c.requires tells) under did next in
    let (found, leaves, repairs) = law.found task n old now c.repair_next.new.state d is in
    let not : c.requests.report ≡ Failed → ⊥ = λ failed.
    let (failure, never) = law.fails task n old mid c.requests.state c.repair_next.new.state action
    (take c.requests.count c.requests.buf) (Ok (Found d))
    (c.requires tells) under (rw failed at next) in cc never in
    rw c.repair.ensures (record {
      len = d.head.data_length;
      start = d.head.data_start;
      is = found;
      leaves = leaves;
      repairs = λ task_is reported. repairs task_is
          ((c.requests.invariant.faults tells reported).1 ∙ no_fault c.requests.report old.faults not);
    })

pub requests-preserved-then-is_lost : goal.requests-preserved-then-is_lost
requests-preserved-then-is_lost g c =
    let M = g.M.Placed in
    let task = c.args.task in
    let n = c.args.length in
    let old = M.state c.args.medium.now in
    let now = M.state c.requests.medium in
    let new = M.state c.perform-report.new.medium in
    let law = c.a_repairer_repairs.ensures in
    let action = c.in-Asks.action in
    let state = c.repair_next.new.state in
    let next = rw c.in-Asks.is at c.in_ok-action.ensures.next in
    let bytes = take c.requests.count c.requests.buf in
    let report = c.requests.report in
    let goes = λ (tells : IsTrue M.tells). goes_on M.keeps task n old now new c.requests.state state action report
    c.perform-report.result bytes _
    (λ mid before. law.goes_on M.keeps task n old mid now c.requests.state state before bytes report
    (Ok (Asks action)) (g.met.M.Placed.bytes c.args.medium.now tells) (c.requires tells))
    (law.requests task n old now state action)
    (λ failed. c.a_repair_ends.ensures.ended task n bytes c.requests.state state action (rw failed at next))
    (c.perform-report.ensures.does tells) (c.perform-report.ensures.faults tells) next
    (c.requests.invariant.waits tells) in
    record {
      sound = c.repair_next.ensures.sound;
      within = c.perform-report.ensures.within;
      waits = λ tells. let (under, did, counts) = goes tells in
          (now, action, under, lost_report M.keeps action _ c.perform-report.result now new did);
      faults = λ tells reported.
          let (under, did, counts) = goes tells in
          let (all, was) = c.requests.invariant.faults tells reported in
          let rest = reported_rest c.requests.lost.now c.in-Some.rest.now c.in-Some.is_lost.now
          c.in-Some.ensures.cases.0 all in
          absurd (let none = rest.0 in cc (none, c.if-is_lost.true));
    }

pub requests-preserved-else-is_lost : goal.requests-preserved-else-is_lost
requests-preserved-else-is_lost g c =
    let M = g.M.Placed in
    let task = c.args.task in
    let n = c.args.length in
    let old = M.state c.args.medium.now in
    let now = M.state c.requests.medium in
    let new = M.state c.perform-report.new.medium in
    let law = c.a_repairer_repairs.ensures in
    let action = c.in-Asks.action in
    let state = c.repair_next.new.state in
    let next = rw c.in-Asks.is at c.in_ok-action.ensures.next in
    let bytes = take c.requests.count c.requests.buf in
    let report = c.requests.report in
    let goes = λ (tells : IsTrue M.tells). goes_on M.keeps task n old now new c.requests.state state action report
    c.perform-report.result bytes _
    (λ mid before. law.goes_on M.keeps task n old mid now c.requests.state state before bytes report
    (Ok (Asks action)) (g.met.M.Placed.bytes c.args.medium.now tells) (c.requires tells))
    (law.requests task n old now state action)
    (λ failed. c.a_repair_ends.ensures.ended task n bytes c.requests.state state action (rw failed at next))
    (c.perform-report.ensures.does tells) (c.perform-report.ensures.faults tells) next
    (c.requests.invariant.waits tells) in
    record {
      sound = c.repair_next.ensures.sound;
      within = c.perform-report.ensures.within;
      waits = λ tells. let (under, did, counts) = goes tells in (now, action, under, did);
      faults = λ tells reported.
          let (under, did, counts) = goes tells in
          let (all, was) = c.requests.invariant.faults tells reported in
          let rest = reported_rest c.requests.lost.now c.in-Some.rest.now c.in-Some.is_lost.now
          c.in-Some.ensures.cases.0 all in
          (rest.1, counts was);
    }

pub requests-preserved : goal.requests-preserved
requests-preserved g c =
    let M = g.M.Placed in
    let task = c.args.task in
    let n = c.args.length in
    let old = M.state c.args.medium.now in
    let now = M.state c.requests.medium in
    let new = M.state c.perform-report.new.medium in
    let law = c.a_repairer_repairs.ensures in
    let action = c.in-Asks.action in
    let state = c.repair_next.new.state in
    let next = rw c.in-Asks.is at c.in_ok-action.ensures.next in
    let bytes = take c.requests.count c.requests.buf in
    let report = c.requests.report in
    let goes = λ (tells : IsTrue M.tells). goes_on M.keeps task n old now new c.requests.state state action report
    c.perform-report.result bytes _
    (λ mid before. law.goes_on M.keeps task n old mid now c.requests.state state before bytes report
    (Ok (Asks action)) (g.met.M.Placed.bytes c.args.medium.now tells) (c.requires tells))
    (law.requests task n old now state action)
    (λ failed. c.a_repair_ends.ensures.ended task n bytes c.requests.state state action (rw failed at next))
    (c.perform-report.ensures.does tells) (c.perform-report.ensures.faults tells) next
    (c.requests.invariant.waits tells) in
    record {
      sound = c.repair_next.ensures.sound;
      within = c.perform-report.ensures.within;
      waits = λ tells. let (under, did, counts) = goes tells in (now, action, under, did);
      faults = λ tells reported.
          let (under, did, counts) = goes tells in
          let (all, was) = c.requests.invariant.faults tells reported in
          (all, counts was);
    }

pub requests-smaller : goal.requests-smaller
requests-smaller g c =
    let task = c.args.task in
    let n = c.args.length in
    let action = c.in-Asks.action in
    let state = c.repair_next.new.state in
    let next = rw c.in-Asks.is at c.in_ok-action.ensures.next in
    let bytes = take c.requests.count c.requests.buf in
    let ends = c.a_repair_ends.ensures in
    fewer_left c.requests.report c.perform-report.result (effects_left n c.requests.state) (effects_left n state)
    (length c.requests.lost.now)
    (λ done. ends.nearer task n bytes c.requests.state state action (rw done at next))
    (λ pending. ends.again task n bytes c.requests.state state action (rw pending at next))
    (λ failed. ends.ended task n bytes c.requests.state state action (rw failed at next))
    c.perform-report.ensures.reported
