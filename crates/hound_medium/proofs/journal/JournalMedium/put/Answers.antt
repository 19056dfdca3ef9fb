use Rattle.std.proofs.lemmas.Grind.{common_steps}
use Rattle.std.proofs.Common.{◌∙◌, take, ap, sym, arith}
use Rattle.hound_medium.specs.State.{overlay, placed}
use Rattle.hound_medium.proofs.Overlays.{small_overlay, small_take, replays_more}
use Rattle.hound_medium.proofs.journal.JournalMedium.put.Goals as goal

pub invariant_of-self-2-clause-are_bytes : goal.invariant_of-self-2-clause-are_bytes
invariant_of-self-2-clause-are_bytes c = grind (arith, common_steps, small_overlay, small_take)

pub invariant_of-self-2-clause-replays : goal.invariant_of-self-2-clause-replays
invariant_of-self-2-clause-replays c =
    let j = c.call.new.self in
    let added = placed j.place (take c.min-n.result c.args.bytes.now) in
    let is = c.count_fault.ensures.same ∙ c.in_ok-count_fault.was in
    rw is at c.put_and_keep-outcome.ensures.ok
    ∙ replays_more j.start.items j.past.items added j.bytes.items j.replays
    ∙ ap (overlay j.start.items) (sym (rw is at c.put_and_keep-outcome.ensures.kept))
