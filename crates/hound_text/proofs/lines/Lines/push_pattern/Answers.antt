use Rattle.std.proofs.lemmas.Grind.{common_steps}
use Rattle.std.proofs.Common.{◌≡◌, suc, ◌-◌, ◌/◌, ◌%◌, ◌^◌, ◌++◌, ◌∷◌, [], false, length, length-append, ap, ◌∙◌, append_assoc, append-nil, arith}
use Rattle.std.specs.Fmt.{digit_glyph}
use Rattle.hound_text.specs.Text.{padded_digits}
use Rattle.hound_text.proofs.Decimals.{sixteen-pow}
use Rattle.hound_text.proofs.lines.Lines.push_pattern.Goals as goal

pub loop-place-preserved : goal.loop-place-preserved
loop-place-preserved c =
    let loop = c.loop-place in
    let k = loop.place - 1 in
    let rest = padded_digits 16 k c.args.pattern in
    let more : suc k ≡ loop.place = omega (arith, c.loop-place-test.true) in
    let digit : c.unwrap.result ≡ digit_glyph false (c.args.pattern / 16 ^ k % 16) =
    (rw c.unwrap.ensures at c.from_digit.ensures.value).1 ∙ ap (λ n. digit_glyph false (c.args.pattern / n % 16))
    (sixteen-pow k) in
    record {
      within = omega (arith, loop.invariant.within);
      room = omega (
        arith,
        loop.invariant.room,
        c.loop-place-test.true,
        ap length c.push.ensures,
        length-append loop.self (c.unwrap.result ∷ []),
      );
      digits = ap (λ l. l ++ rest) c.push.ensures ∙ append_assoc loop.self (c.unwrap.result ∷ []) rest
          ∙ ap (λ g. loop.self ++ (g ∷ rest)) digit
          ∙ ap (λ n. loop.self ++ padded_digits 16 n c.args.pattern) more
          ∙ loop.invariant.digits;
    }

pub returns : goal.returns
returns c = grind (arith, common_steps, append-nil, append_assoc)
