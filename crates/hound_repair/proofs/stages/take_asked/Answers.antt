use Rattle.std.proofs.Common.{◌-◌, ◌∙◌, sym, ap, subst, take, drop, arith}
use Rattle.hound_repair.specs.Steps.{IsAtChunk, IsAtStage, IsNotFollowed, StageNearer, looks_for_chunks, steps_left}
use Rattle.hound_repair.specs.declared.stages.Stage.TheVariants as stages
use Rattle.hound_repair.proofs.Stepping.{tag_length}
use Rattle.hound_repair.proofs.stages.take_asked.Goals as goal

pub returns-in-Head-clause-leads : goal.returns-in-Head-clause-leads
returns-in-Head-clause-leads c = λ file size at is.
    c.take_header.ensures.leads file size (rw c.in-Head.is at at) (rw c.in-Head.is at is)

pub returns-in-Last-clause-leads : goal.returns-in-Last-clause-leads
returns-in-Last-clause-leads c = λ file size at is.
    c.take_last.ensures.leads file size (rw c.in-Last.is at at) (rw c.in-Last.is at is)

pub returns-in-Last-clause-nearer : goal.returns-in-Last-clause-nearer
returns-in-Last-clause-nearer c = rw c.in-Last.is c.take_last.ensures.nearer

pub returns-in_ok-measured-in-Size-clause-leads : goal.returns-in_ok-measured-in-Size-clause-leads
returns-in_ok-measured-in-Size-clause-leads c = λ file size at is. let there = rw c.in-Size.is at at in
    c.take_size.ensures.leads _ file (c.in_ok-measured-in-Size.ensures.measures file size there.0 there.1)
    (subst (IsNotFollowed (looks_for_chunks c.args.task) file) (sym c.in_ok-measured-in-Size.ensures.head) there)
    (rw c.in-Size.is at is)

pub returns-in_ok-measured-in-Size-clause-nearer : goal.returns-in_ok-measured-in-Size-clause-nearer
returns-in_ok-measured-in-Size-clause-nearer c = c.take_size.ensures.nearer _ _

pub returns-in_ok-damage-in-Chunk-clause-leads : goal.returns-in_ok-damage-in-Chunk-clause-leads
returns-in_ok-damage-in-Chunk-clause-leads c = λ file size at is. let there = rw c.in-Chunk.is at at in
    c.take_chunk.ensures.leads _ file
    (c.in_ok-damage-in-Chunk.ensures.measures file size there.0.head_is there.0.shown_is)
    (subst (λ h. IsAtChunk (looks_for_chunks c.args.task) file h c.in-Chunk.place c.in-Chunk.padded)
    (sym c.in_ok-damage-in-Chunk.ensures.head) there)
    (rw c.in-Chunk.is at is)

pub returns-in_ok-damage-in-Chunk-clause-nearer : goal.returns-in_ok-damage-in-Chunk-clause-nearer
returns-in_ok-damage-in-Chunk-clause-nearer c =
    rw c.in-Chunk.is (subst (λ h. StageNearer c.args.length
    (steps_left c.args.length (stages.Chunk h c.in-Chunk.place c.in-Chunk.padded)) c.take_chunk.result)
    c.in_ok-damage-in-Chunk.ensures.head
    (c.take_chunk.ensures.nearer c.args.length c.in_ok-damage-in-Chunk.ensures.inside))

pub returns-in_ok-measured-in-Tag-clause-leads : goal.returns-in_ok-measured-in-Tag-clause-leads
returns-in_ok-measured-in-Tag-clause-leads c = λ file size at is. let there = rw c.in-Tag.is at at in
    let seen = c.in_ok-measured-in-Tag.ensures in
    let m = seen.measures file size there.0.0.head_is there.0.0.shown_is in
    c.take_tag.ensures.leads _ file m
    (subst (λ h. IsAtStage (looks_for_chunks c.args.task) file (stages.Tag h)) (sym seen.head) there)
    (rw c.in-Tag.is at is ∙ ap (λ k. take 3 (drop (k - 128) file))
    (tag_length c.args.length file c.in_ok-measured-in-Tag.field-0 size m seen.inside seen.sound))

pub returns-in_ok-measured-in-Tag-clause-nearer : goal.returns-in_ok-measured-in-Tag-clause-nearer
returns-in_ok-measured-in-Tag-clause-nearer c = rw c.in-Tag.is (c.take_tag.ensures.nearer _ _ (omega arith))
