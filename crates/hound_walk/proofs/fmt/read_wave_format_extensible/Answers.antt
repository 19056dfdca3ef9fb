use Rattle.std.proofs.Common.{◌+◌, ◌-◌, ◌++◌, length, arith, rules, sym, ap, ◌∙◌, length-append, take_all}
use Rattle.std.proofs.lemmas.Result.{err_from_is_err_and}
use Rattle.std.proofs.KnownBytes.{Consumes-trans}
use Rattle.hound_walk.specs.Grammar.{wave_format_extensible}
use Rattle.hound_number.specs.{number}
use Rattle.hound_walk.proofs.Gives.{ok_from_taken, err_from_taken}
use Rattle.hound_walk.proofs.FmtLemmas.{extensible_at}
use Rattle.hound_walk.proofs.TakenLemmas.{subformat_fails, takes_these}
use Rattle.hound_walk.specs.Walking.{content_taken}
use Rattle.hound_spec.specs.{extensible, extension}
use Rattle.hound_walk.proofs.fmt.read_wave_format_extensible.Goals as goal

pub returns-in_err-choose_subformat : goal.returns-in_err-choose_subformat
returns-in_err-choose_subformat g c =
    let p = err_from_is_err_and c.from_residual-in_err-choose_subformat.result
    c.from_residual-in_err-choose_subformat.ensures.1 in
    let a = c.fill.new.buf in
    let b = c.fill-2.new.buf in
    let at = extensible_at c.args.chunk_len c.args.found a b (omega arith) (omega arith) (omega arith)
    (ap number (sym (take_all 2 a (omega arith))) ∙ sym c.u16_at.ensures ∙ c.if-u16_at-ne-EXTENSION_LENGTH.false) in
    let bad = sym c.choose_subformat.ensures.subformat ∙ c.in_err-choose_subformat.was in
    let is = subformat_fails c.args.found (extension b) c.in_err-choose_subformat.field-0.0 bad in
    let all = Consumes-trans _ _ _ _ _ c.in_ok-fill.ensures.ok c.in_ok-fill-2.ensures.ok in
    rw (p.1, p.2) (record {
      sound = tt;
      failures = search rules;
      gives = err_from_taken _ (a ++ b) _ _ (wave_format_extensible c.args.chunk_len c.args.found)
          c.in_err-choose_subformat.field-0.0 all (omega (arith, length-append a b)) (at ∙ bad);
      taken = takes_these (a ++ b) _ _ (λ d xs. content_taken extensible c.args.chunk_len d (16 + length xs) - 16)
          c.in_err-choose_subformat.field-0.0 all (λ ys. rw is (omega (arith, length-append a b)));
      late = λ n. rw is (omega arith);
    })

pub returns : goal.returns
returns g c =
    let a = c.fill.new.buf in
    let b = c.fill-2.new.buf in
    let at = extensible_at c.args.chunk_len c.args.found a b (omega arith) (omega arith) (omega arith)
    (ap number (sym (take_all 2 a (omega arith))) ∙ sym c.u16_at.ensures ∙ c.if-u16_at-ne-EXTENSION_LENGTH.false) in
    record {
      sound = search rules;
      failures = search rules;
      gives = ok_from_taken _ (a ++ b) _ _
          (wave_format_extensible c.args.chunk_len c.args.found) c.in_ok-choose_subformat.field-0
          (Consumes-trans _ _ _ _ _ c.in_ok-fill.ensures.ok c.in_ok-fill-2.ensures.ok)
          (omega (arith, length-append a b))
          (at ∙ sym c.choose_subformat.ensures.subformat ∙ c.in_ok-choose_subformat.was);
      taken = tt;
      late = tt;
    }
