use Rattle.std.proofs.lemmas.Grind.{common_steps}
use Rattle.std.proofs.Common.{◌≡◌, ◌+◌, ◌*◌, ◌/◌, ◌<◌, ◌≤◌, ℕ, length, min, Result, Ok, Err, IsErrAnd, inl, inr, sym, subst, arith}
use Rattle.std.proofs.Math.Nat.{le-div_iff_mul-le}
use Rattle.std.proofs.lemmas.List.{length-drop, take_all, take_at}
use Rattle.std.specs.Prelude.{IfErr, OnErr}
use Rattle.hound.specs.{Error, IsCauseOf, samples_left}
use Rattle.hound_callers.proofs.reading.read_memory.Goals as goal

-- an error that is passed on
passed_on : {T : Type 0} (P : Error → Type 0) (result : Result T Error) (e : Error)
    → IsErrAnd result (λ r. r ≡ e) → P e → IfErr result P
passed_on P (Ok x) e is holds = tt
passed_on P (Err r) e is holds = subst P (sym is) holds

-- no more samples are requested than the bytes could hold, but one: so where all of them came, these are all
all_came : (n size w count : ℕ) → 1 ≤ w → n ≡ min (size / w + 1) count → n * w ≤ size → n ≡ count
all_came n size w count some is whole = grind (arith, common_steps, le-div_iff_mul-le)

pub returns-in_err-result-clause-err : goal.returns-in_err-result-clause-err
returns-in_err-result-clause-err g c =
    let reader = c.in_ok-reader.reader in
    let (start, readable, rest) = c.in_ok-reader.ensures.found in
    let e = c.in_err-result.field-0.0 in
    let count = c.decode_samples.result.0 in
    let part = subst (λ r. OnErr r (count < min (length c.decode_samples.new.samples) (samples_left reader)))
    c.in_err-result.was c.decode_samples.ensures.block.part in
    let cause = subst (λ r. IfErr r (IsCauseOf g.S.Decode.decode_rejection reader.spec_ex count reader.reader.now))
    c.in_err-result.was c.decode_samples.ensures.cause in
    passed_on _ c.from_residual-in_err-result.result e c.from_residual-in_err-result.ensures.1
    (inl (inr (
      reader.spec_ex,
      reader.num_samples,
      start,
      readable,
      count,
      omega (arith, part),
      subst (λ bytes. IsCauseOf g.S.Decode.decode_rejection reader.spec_ex count bytes e) rest cause,
    )))

pub returns-clause-read : goal.returns-clause-read
returns-clause-read g c = grind (arith, common_steps, length-drop, take_all, take_at, all_came)
