use Rattle.std.proofs.Common.{◌≡◌, ◌∙◌, ℕ, ◌+◌, ◌∷◌, [], IsOk, ap, drop, inl, inr, length, take, arith, sym, subst, length-take}
use Rattle.std.specs.List.{All}
use Rattle.hound.specs.{MediumState, SurvivesLoss, accepted_by_all, data_length, data_start, made, own, publish, WavSpecEx}
use Rattle.hound_callers.specs.Recording.{TakesNoBlock, bytes_of_blocks, containers_by}
use Rattle.hound_callers.proofs.Publishing.{last_flush, none_before}
use Rattle.hound_callers.proofs.recording.record_checkpoints.Goals as goal

pub returns-clause-published : goal.returns-clause-published
returns-clause-published g c modelled keeps =
    let s = c.args.spec_ex in
    let container = g.S.Sample.container in
    let first = take c.publish_blocks-published.result c.args.blocks.now in
    let (more, stops, recorded) = c.publish_blocks-published.ensures.published s _ c.in-Ok.ensures.recorded in
    let kept = c.what_a_loss_leaves.ensures modelled keeps s _ _ _
    (c.drop_into-durable.ensures.left s _ _ recorded) in (
      c.new.result,
      c.drop_into-durable.result,
      c.new.ensures.within,
      sym c.into_inner-2.ensures,
      (
        more,
        stops,
        kept,
        λ some. last_flush (containers_by container s) first more (made publish ∷ []) kept.left.recorded.calls (omega (
          arith,
          some,
          c.publish_blocks-published.ensures.within,
          length-take c.publish_blocks-published.result c.args.blocks.now,
        )) (subst (λ (x : WavSpecEx). All (λ block. IsOk (containers_by container x block)) first)
            c.in-Ok.ensures.begins.begun.spec c.publish_blocks-published.ensures.have)
            c.what_is_known.ensures.published kept.left.recorded.are_known,
      ),
    )

pub returns-clause-safe : goal.returns-clause-safe
returns-clause-safe g c modelled keeps some =
    let (first, last, old, new, (more, stops, kept, flushes)) = returns-clause-published g c modelled keeps in
    let (before, after, flush, parts, has_all, have) = flushes some in (
      accepted_by_all before,
      have,
      λ looks sector cut mended found one lies lost repairs apart.
          c.a_repair_loses_no_published_sample.ensures c.args.spec_ex _ kept.left.recorded.calls _ kept.promised
          before after flush looks cut mended found parts has_all
          (kept.left_after before after flush parts has_all sector cut.contents one lies
          (subst (λ (s : MediumState). SurvivesLoss sector s.start s.past s.flushed (length s.past)
          cut.contents) (sym new) lost))
          repairs apart,
    )

pub returns-in-Err-clause-rejected : goal.returns-in-Err-clause-rejected
returns-in-Err-clause-rejected g c = (
  c.new.result,
  c.in-Err.durable,
  c.new.ensures.within,
  sym c.into_inner.ensures,
  c.in-Err.ensures.begins,
)

pub returns-clause-cause : goal.returns-clause-cause
returns-clause-cause g c tells none =
    let s = c.args.spec_ex in
    let n = c.publish_blocks-published.result in
    let blocks = c.args.blocks.now in
    let f = λ (x : WavSpecEx). containers_by g.S.Sample.container x in
    let w = c.in-Ok.writer in
    let begun = c.in-Ok.ensures.begins.begun in
    let (answer, finishes) = c.drop_into-durable.ensures.finishes in
    let durable = c.drop_into-durable.result in
    let state = own g.M.Placed.keeps (g.M.Placed.state durable.inner) durable.faults durable.flushed in
    let end : state.faults ≡ 0 = omega (
      arith,
      c.a_durable_medium_ascends-2.ensures.faults tells,
      ap (λ (m : MediumState). m.faults) c.into_inner-2.ensures,
      none,
    ) in
    let given = c.publish_blocks-published.ensures.cause tells
    ((c.in-Ok.ensures.begins.file tells).faults ∙ c.new.ensures.faults)
    (none_before answer _ _ (finishes.publishes tells).faults end) in
    let empty : data_length w ≡ 0 = omega (arith, begun.none_out, ap length begun.none_buffered) in
    let total : data_length w + bytes_of_blocks (f s) (take n blocks) ≡ bytes_of_blocks (f s) (take n blocks) =
    omega (arith, empty) in
    subst (λ len. TakesNoBlock (f s) (data_start s) len (drop n blocks)) total
    (subst (λ (x : WavSpecEx × ℕ). TakesNoBlock (f x.0) x.1
    (data_length w + bytes_of_blocks (f x.0) (take n blocks)) (drop n blocks))
    (λ i. (begun.spec i, begun.start i)) given)

pub returns-in-Err-clause-cause : goal.returns-in-Err-clause-cause
returns-in-Err-clause-cause g c tells none = elim c.in-Err.ensures.begins [
  | inl (never, is, same) ↦ (never, is)
  | inr (can, fault, puts) ↦ absurd (let counted = (puts tells).faults in omega (
    arith,
    counted,
    c.new.ensures.faults,
    c.a_durable_medium_ascends.ensures.faults tells,
    ap (λ (m : MediumState). m.faults) c.into_inner.ensures,
    none,
  ))
]
