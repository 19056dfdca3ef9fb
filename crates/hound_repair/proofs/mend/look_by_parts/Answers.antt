use Rattle.std.proofs.lemmas.Grind.{common_steps}
use Rattle.std.proofs.Common.{Ok, inl, subst, arith, rules, length-take}
use Rattle.hound_repair.specs.Steps.{LooksTo, looks_for_chunks, rejected_for}
use Rattle.hound_repair.proofs.ByEffects.{fault_of}
use Rattle.hound_repair.proofs.Stepping.{part_read}
use Rattle.hound_repair.proofs.mend.look_by_parts.Goals as goal

pub parts-init : goal.parts-init
parts-init g c = record {
  sound = c.first-stage.ensures.sound;
  size = λ modelled. grind (arith, common_steps, c.in_ok-length.ensures.length modelled);
  same = λ modelled. let looks = c.in_ok-length.ensures.looks modelled in
      record { puts = looks.puts; faults = looks.faults };
  at = λ modelled. c.first-stage.ensures.at _ _;
}

pub parts-preserved : goal.parts-preserved
parts-preserved g c = record {
  sound = search rules;
  size = c.parts.invariant.size;
  same = search rules;
  at = λ modelled. let file = (g.S.Placed.state c.args.source.now).contents in
      subst (λ r. LooksTo (looks_for_chunks c.args.task) file (Ok r)) c.in-Ok-Next.field-0-is
      (c.in-Ok-Next.ensures.leads file (c.parts.invariant.size modelled) (c.parts.invariant.at modelled)
      (part_read c.in_ok-count.count c.count-asked.result _ c.place.result _ _ _ _ file _ c.part_at.auto.buf
      (grind (arith, length-take, c.count-asked.ensures.few))
      c.in_ok-count.ensures.within (c.parts.invariant.same modelled).puts.stays.contents
      (c.in_ok-count.ensures.bytes modelled) c.count-asked.ensures.is c.place.ensures));
}

pub returns-in-Ok-Found-clause-finds : goal.returns-in-Ok-Found-clause-finds
returns-in-Ok-Found-clause-finds g c modelled =
    let file = (g.S.Placed.state c.args.source.now).contents in
    let found = subst (λ r. LooksTo (looks_for_chunks c.args.task) file (Ok r)) c.in-Ok-Found.field-0-is
    (c.in-Ok-Found.ensures.leads file (c.parts.invariant.size modelled) (c.parts.invariant.at modelled)
    (part_read c.in_ok-count.count c.count-asked.result _ c.place.result _ _ _ _ file _ c.part_at.auto.buf
    (grind (arith, length-take, c.count-asked.ensures.few))
    c.in_ok-count.ensures.within (c.parts.invariant.same modelled).puts.stays.contents
    (c.in_ok-count.ensures.bytes modelled) c.count-asked.ensures.is c.place.ensures)) in
    record {
      found = found.0;
      held_is = found.1;
      puts = search rules;
      faults = search rules;
    }

pub returns-in-Err-clause-finds : goal.returns-in-Err-clause-finds
returns-in-Err-clause-finds g c modelled =
    let file = (g.S.Placed.state c.args.source.now).contents in
    record {
      puts = search rules;
      why = inl (
        rejected_for c.in-Err.why,
        fault_of c.in-Err.why file
            (c.in-Err.ensures.leads file (c.parts.invariant.size modelled) (c.parts.invariant.at modelled)
            (part_read c.in_ok-count.count c.count-asked.result _ c.place.result _ _ _ _ file _ c.part_at.auto.buf
            (grind (arith, length-take, c.count-asked.ensures.few))
            c.in_ok-count.ensures.within (c.parts.invariant.same modelled).puts.stays.contents
            (c.in_ok-count.ensures.bytes modelled) c.count-asked.ensures.is c.place.ensures)),
        c.error_for.ensures.names,
        search rules,
      );
    }
