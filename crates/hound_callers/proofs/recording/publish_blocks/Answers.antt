use Rattle.std.proofs.Common.{◌≡◌, ℕ, ◌+◌, true, length, ◌++◌, ◌∷◌, [], take, IsOk, arith, sym, ap, ◌∙◌, subst}
use Rattle.std.proofs.lemmas.List.Elements.{All-more}
use Rattle.std.specs.List.{concat}
use Rattle.hound.specs.{Recorded, WavSpecEx, data_length, if_marked, seen}
use Rattle.hound_callers.specs.Recording.{bytes_of_blocks, containers_by, published_calls}
use Rattle.hound.proofs.Knowing.{at_ok}
use Rattle.hound_callers.proofs.Publishing.{more_bytes, seen_more}
use Rattle.hound_callers.proofs.recording.publish_blocks.Goals as goal

pub loop-i-preserved : goal.loop-i-preserved
loop-i-preserved g c =
    let M = g.M.Placed in
    let i = c.loop-i.i in
    let blocks = c.args.blocks.now in
    let f = λ (s : WavSpecEx). containers_by g.S.Sample.container s in
    let s = c.args.writer.now.spec_ex in
    let ok = c.if-is_err.ensures.negation in
    record {
      within = omega (arith, c.loop-i-test.true);
      spec = c.publish_block.ensures.spec ∙ c.loop-i.invariant.spec;
      have = All-more (λ block. IsOk (f s block)) blocks i c.index-blocks-i.result c.loop-i-test.true
          c.loop-i.invariant.have
          (subst IsOk (λ j. f (c.loop-i.invariant.spec j) (c.index-blocks-i.is j))
          (at_ok c.publish_block.result ok c.publish_block.ensures.have));
      published = λ x file first. subst (λ l. Recorded M x file l c.publish_block.new.writer)
          (ap (λ block. seen (published_calls (f x) (take i blocks))
          ++ seen (published_calls (f x) (block ∷ []))) c.index-blocks-i.is
          ∙ sym (seen_more (f x) blocks i _ c.loop-i-test.true))
          (at_ok c.publish_block.result ok c.publish_block.ensures.published x file _
          (c.loop-i.invariant.published x file first));
      start = c.publish_block.ensures.start ∙ c.loop-i.invariant.start;
      longer = at_ok c.publish_block.result ok c.publish_block.ensures.longer
          ∙ (λ j. c.loop-i.invariant.longer j
          + length (concat (if_marked true (f (c.loop-i.invariant.spec j) (c.index-blocks-i.is j)))))
          ∙ sym (ap (λ n. data_length c.args.writer.now + n) (more_bytes (f s) blocks i _ c.loop-i-test.true)
          ∙ sums (data_length c.args.writer.now) (bytes_of_blocks (f s) (take i blocks)) _);
      same_faults = λ tells. at_ok c.publish_block.result ok (c.publish_block.ensures.same_faults tells)
          ∙ c.loop-i.invariant.same_faults tells;
    }
  where
    sums : (a b c : ℕ) → a + (b + c) ≡ a + b + c
    sums a b c = omega arith
