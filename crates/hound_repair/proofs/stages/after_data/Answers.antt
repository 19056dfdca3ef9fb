use Rattle.std.proofs.lemmas.Grind.{common_steps}
use Rattle.std.proofs.Common.{◌≡◌, ◌+◌, ◌%◌, ◌<◌, subst, true, arith, length-drop}
use Rattle.hound_spec.specs.{padded}
use Rattle.hound_writer.proofs.Heads.{head_inside}
use Rattle.hound_repair.specs.Held.{held}
use Rattle.hound_repair.specs.Steps.{IsAtChunk, IsSearched, looks_for_chunks}
use Rattle.hound_repair.proofs.Chunking.{nothing_follows}
use Rattle.hound_repair.proofs.Stepping.{begin_padded}
use Rattle.hound_repair.proofs.stages.after_data.Goals as goal

pub returns-then-place-min-clause-at : goal.returns-then-place-min-clause-at
returns-then-place-min-clause-at c = λ file size head shown. let h = c.args.head in
    let looks : looks_for_chunks c.args.task ≡ true = grind (arith, common_steps) in
    let searched : IsSearched (looks_for_chunks c.args.task) file h =
    record { looks_for = looks; head_is = head; shown_is = shown } in
    let before : padded h.data_length < held h.data_start file = grind (arith, common_steps, length-drop) in
    let place : h.data_start + padded h.data_length ≡ h.data_start + h.data_length + h.data_length % 2 = omega arith in
    subst (λ k. IsAtChunk (looks_for_chunks c.args.task) file h k true) place
    (begin_padded (looks_for_chunks c.args.task) file h searched before)

pub returns-clause-at : goal.returns-clause-at
returns-clause-at c = λ file size head shown. (
  head,
  shown,
  λ small. grind (arith, common_steps, length-drop, head_inside, nothing_follows),
)
