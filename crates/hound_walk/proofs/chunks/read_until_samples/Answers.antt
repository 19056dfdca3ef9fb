use Rattle.std.proofs.lemmas.Result.{err_from_is_err_and}
use Rattle.hound_walk.proofs.TakenLemmas.{length_takes}
use Rattle.hound_walk.proofs.chunks.read_until_samples.Goals as goal

pub returns-in_err-num_samples-clause-taken : goal.returns-in_err-num_samples-clause-taken
returns-in_err-num_samples-clause-taken g c =
    let p = err_from_is_err_and c.from_residual-in_err-num_samples.result
    c.from_residual-in_err-num_samples.ensures.1 in
    let head = c.in_ok-head.head in
    rw (p.1, p.2)
    (length_takes _ _ head.spec_ex head.data_length head.data_start c.in_err-num_samples.field-0.0
    c.in_err-num_samples.ensures.fault c.in_ok-head.ensures.found)
