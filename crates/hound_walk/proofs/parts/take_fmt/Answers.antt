use Rattle.std.proofs.Common.{◌≡◌, ◌+◌, Err, arith, subst}
use Rattle.hound_spec.specs.declared.spec.WavSpecEx.{WavSpecEx}
use Rattle.hound_spec.specs.{padded}
use Rattle.hound_walk.specs.Grammar.{fmt_len, fmt_of}
use Rattle.hound_walk.proofs.PartLemmas.{caused, rejects_at, reaches, passed_fmt, rejected_fmt, fmt_inside, chunk_inside, nearer_within}
use Rattle.hound_walk.specs.Parts.{IsAfter}
use Rattle.hound_walk.proofs.parts.take_fmt.Goals as goal

pub returns-in-Ok-clause-leads : goal.returns-in-Ok-clause-leads
returns-in-Ok-clause-leads c = λ file found at is. let (w, limit, size, four, says, parts) = at in
    let len = c.args.chunk_len in
    let t = c.args.taken in
    let b = c.args.bytes.now in
    let spec = c.in-Ok.spec_ex in
    let (read, enough, left) = c.in-Ok.ensures.gives in
    reaches file c.skip.result (padded len) (fmt_len len) _ (t + 8 + padded len)
    (passed_fmt file size b found spec t len w four says parts limit is read)
    (subst (λ n. IsAfter (padded len) n c.skip.result.part) c.min.ensures c.skip.ensures.part) c.skip.ensures.found
    c.skip.ensures.taken
    (λ none. omega (
      arith,
      none,
      fmt_inside file b t (fmt_len len) is enough (chunk_inside file size found t w four parts),
    ))

pub returns-in-Ok-clause-within : goal.returns-in-Ok-clause-within
returns-in-Ok-clause-within c = λ n few. nearer_within n c.args.taken c.args.chunk_len _ c.args.bytes.now
    c.in-Ok.spec_ex c.skip.result c.in-Ok.ensures.gives.0 c.skip.ensures.part c.skip.ensures.taken few

pub returns-in-Err-clause-leads : goal.returns-in-Err-clause-leads
returns-in-Err-clause-leads c = λ file found at is. let (w, limit, size, four, says, parts) = at in
    let len = c.args.chunk_len in
    let e = c.in-Err.error in
    let cause = c.cause_of.result in
    rejected_fmt file size c.args.bytes.now found c.args.taken len cause w four says parts limit is
    (rejects_at e cause (λ d. fmt_of len c.args.bytes.now ≡ Err d)
    (caused WavSpecEx e cause c.in-Err.ensures.failures c.cause_of.ensures) c.in-Err.ensures.gives)
