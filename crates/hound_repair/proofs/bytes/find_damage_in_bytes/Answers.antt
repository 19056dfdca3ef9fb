use Rattle.std.proofs.Common.{Ok, refl, subst, ◌∙◌, take, drop, arith, rules, length-drop}
use Rattle.hound_writer.proofs.Heads.{head_inside}
use Rattle.hound_repair.specs.Steps.{LooksTo, looks_for_chunks}
use Rattle.hound_repair.proofs.bytes.find_damage_in_bytes.Goals as goal

pub parts-init : goal.parts-init
parts-init c = record { sound = c.first-stage.ensures.sound; at = c.first-stage.ensures.at _ _ }

pub returns-in-Found-clause-inside : goal.returns-in-Found-clause-inside
returns-in-Found-clause-inside c =
    let file = c.args.bytes.now in
    let head = c.in-Found.damage.head in
    let found = subst (λ r. LooksTo (looks_for_chunks c.args.task) file (Ok r)) c.in-Found.is
    (c.in_ok-next.ensures.leads file refl c.parts.invariant.at
    (c.bytes_at-part.ensures ∙ (λ i. take (c.count.ensures.is i) (drop (c.place.ensures i) file)))) in
    omega (
      arith,
      found.1,
      length-drop head.data_start file,
      head_inside file head.spec_ex head.data_length head.data_start found.0.head,
    )

pub returns-in-Found-clause-finds : goal.returns-in-Found-clause-finds
returns-in-Found-clause-finds c =
    let file = c.args.bytes.now in
    let found = subst (λ r. LooksTo (looks_for_chunks c.args.task) file (Ok r)) c.in-Found.is
    (c.in_ok-next.ensures.leads file refl c.parts.invariant.at
    (c.bytes_at-part.ensures ∙ (λ i. take (c.count.ensures.is i) (drop (c.place.ensures i) file)))) in
    record { found = found.0; held_is = found.1; puts = search rules; faults = refl }
