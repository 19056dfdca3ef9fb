use Rattle.std.proofs.lemmas.Grind.{common_steps}
use Rattle.std.proofs.lemmas.List.{take-append-le}
use Rattle.std.proofs.Common.{◌≡◌, ℕ, ◌+◌, ◌-◌, ◌≤◌, List, ◌++◌, length, slice_range, arith, sym, ap, ◌∙◌, length-append, Option, Result, Ok, Err}
use Rattle.std.specs.Prelude.{IfErr}
use Rattle.std.specs.Io.KnownBytes.{Consumes}
use Rattle.std.proofs.lemmas.Result.{err_from_is_err_and}
use Rattle.hound_spec.specs.{fmt_fields}
use Rattle.hound_walk.proofs.Gives.{gives_from, known_err}
use Rattle.hound_walk.proofs.FmtLemmas.{fmt_head}
use Rattle.hound_walk.proofs.TakenLemmas.{takes_after, takes_these, wave_format_takes}
use Rattle.hound_walk.specs.Walking.{TakesFor, content_taken, Rejects}
use Rattle.hound_number.specs.{number}
use Rattle.hound_spec.specs.declared.spec.WavSpecEx.{WavSpecEx}
use Rattle.hound_walk.specs.declared.cause.HeadError.{HeadError}
use Rattle.hound_walk.proofs.fmt.read_fmt_chunk.Goals as goal

pub returns-in_err-found-clause-gives : goal.returns-in_err-found-clause-gives
returns-in_err-found-clause-gives g c = grind (arith, common_steps, err_from_is_err_and, known_err, fmt_head)

pub returns-clause-gives : goal.returns-clause-gives
returns-clause-gives g c = grind (arith, common_steps, gives_from, fmt_head)

-- after the first sixteen bytes this many more are taken
more_are_taken : (h : List ℕ) (tag len : ℕ) (o m n : Option (List ℕ))
    (r : Result WavSpecEx HeadError) → Consumes o m h → length h ≡ 16
    → tag ≡ number (slice_range h 0 2)
    → IfErr r (TakesFor m n (λ d xs. content_taken tag len d (16 + length xs) - 16))
    → IfErr r (λ e. Rejects e (λ d. (k : ℕ) → 16 ≤ content_taken tag len d (16 + k)))
    → IfErr r (TakesFor o n (λ d xs. content_taken (fmt_fields xs).tag len d (length xs)))
more_are_taken h tag len o m n (Ok x) taken sixteen same t late = tt
more_are_taken h tag len o m n (Err e) taken sixteen same t late =
    takes_after h o m n (λ d xs. content_taken tag len d (16 + length xs) - 16)
    (λ d xs. content_taken (fmt_fields xs).tag len d (length xs))
    (λ d. (k : ℕ) → 16 ≤ content_taken tag len d (16 + k)) e taken late
    (λ d ys later.
    let is : (fmt_fields (h ++ ys)).tag ≡ tag = ap number (take-append-le 2 h ys (omega (arith, sixteen))) ∙ sym same in
    let more : length (h ++ ys) ≡ 16 + length ys = omega (arith, length-append h ys, sixteen) in
    rw (is, more) (omega (arith, sixteen, later (length ys)))) t

pub returns-in_err-found-clause-taken : goal.returns-in_err-found-clause-taken
returns-in_err-found-clause-taken g c = grind (arith, common_steps, err_from_is_err_and, takes_these, wave_format_takes)

pub returns-clause-taken : goal.returns-clause-taken
returns-clause-taken g c = grind (arith, common_steps, more_are_taken)

pub returns-in_err-fill-clause-taken : goal.returns-in_err-fill-clause-taken
returns-in_err-fill-clause-taken g c = grind (arith, common_steps)
