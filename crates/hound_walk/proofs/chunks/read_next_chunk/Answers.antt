use Rattle.std.proofs.Common.{take, subst, arith, rules}
use Rattle.std.proofs.lemmas.Result.{IfOk-weaker}
use Rattle.std.proofs.lemmas.Grind.{common_steps}
use Rattle.hound_walk.specs.Grammar.{chunk_fault}
use Rattle.hound_walk.specs.Walking.{ReadsContent, chunk_taken, content_takes}
use Rattle.hound_number.proofs.KnownSteps.{known_then}
use Rattle.hound_walk.proofs.WalkLemmas.{chunk_from}
use Rattle.hound_walk.proofs.TakenLemmas.{chunk_takes, takes_more}
use Rattle.hound_walk.proofs.chunks.read_next_chunk.Goals as goal

pub returns : goal.returns
unfolding chunk_fault
returns g c =
    let h = c.fill.new.buf in
    let len = c.u32_at-chunk_len.result in
    record {
      sound = c.read_content.ensures.sound;
      failures = search rules;
      ok = IfOk-weaker c.read_content.result _ _ (λ t k. known_then h _ _ _ _ _ c.in_ok-fill.ensures.ok k (λ ys zs q.
          chunk_from c.args.taken c.args.found h t ys zs (omega arith) (omega arith)
          (subst (λ n. ReadsContent c.args.taken c.args.found
          (take 4 h) n t ys zs) c.u32_at-chunk_len.ensures q))) c.read_content.ensures.ok;
      err = grind (arith, common_steps);
      taken = takes_more h _ _ _ (content_takes len) (chunk_taken c.args.taken)
          c.read_content.result c.in_ok-fill.ensures.ok
          (λ d ys. chunk_takes c.args.taken len h ys d (omega arith) (omega arith)
          c.u32_at-chunk_len.ensures) c.read_content.ensures.taken;
    }
