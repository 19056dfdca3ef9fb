use Rattle.std.proofs.lemmas.Grind.{common_steps}
use Rattle.std.proofs.Common.{refl, arith}
use Rattle.std.proofs.lemmas.Result.{err_from_is_err_and}
use Rattle.hound_number.proofs.Counting.{NoneFailed-trans}
use Rattle.hound_number.proofs.KnownSteps.{known_both, known_weaker}
use Rattle.hound_walk.specs.Walking.{Walked, ReadsChunk}
use Rattle.hound_walk.specs.declared.chunks.ChunkRead.TheVariants.{Data}
use Rattle.hound_walk.proofs.WalkLemmas.{head_from, walked_more}
use Rattle.hound_walk.proofs.TakenLemmas.{rejected_for, walk_takes}
use Rattle.hound_walk.proofs.chunks.read_until_data.Goals as goal

pub chunks-init : goal.chunks-init
chunks-init g c = grind (arith, common_steps, known_weaker)

pub chunks-preserved : goal.chunks-preserved
chunks-preserved g c = grind (arith, common_steps, NoneFailed-trans, known_both, walked_more)

pub returns-in_err-spec_ex-clause-rejected : goal.returns-in_err-spec_ex-clause-rejected
returns-in_err-spec_ex-clause-rejected g c = grind (arith, common_steps, err_from_is_err_and, rejected_for, walk_takes)

pub returns-in_err-spec_ex-clause-taken : goal.returns-in_err-spec_ex-clause-taken
returns-in_err-spec_ex-clause-taken g c =
    let p = err_from_is_err_and c.from_residual-in_err-spec_ex.result c.from_residual-in_err-spec_ex.ensures.1 in
    rw (p.1, p.2)
    (walk_takes _ _ _ c.chunks.found c.chunks.taken c.in_err-spec_ex.field-0.0
    c.chunks.invariant.3 c.in_err-spec_ex.ensures.err c.in_err-spec_ex.ensures.taken)

pub returns-in-Data-clause-found : goal.returns-in-Data-clause-found
returns-in-Data-clause-found g c =
    let did = rw c.in-Data.is at c.in_ok-spec_ex.ensures in
    known_both _ _ _ (λ xs ys. Walked xs ys c.chunks.found c.chunks.taken)
    (ReadsChunk c.chunks.taken c.chunks.found (Data c.in-Data.spec_ex c.in-Data.data_length)) _
    c.chunks.invariant.3 did.ok (λ xs ys zs w t.
    head_from xs ys zs c.chunks.found c.chunks.taken c.in-Data.spec_ex c.in-Data.data_length _ w t refl)
