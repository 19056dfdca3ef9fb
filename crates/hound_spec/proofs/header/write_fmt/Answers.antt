use Rattle.std.proofs.Common.{◌≡◌, ◌++◌, ap, sym, ◌∙◌, append_assoc, true, false}
use Rattle.hound_number.specs.{bytes_of}
use Rattle.hound_spec.specs.Header.{is_short, short_fmt, long_fmt}
use Rattle.hound_spec.proofs.HeaderLemmas.{sized_fmt-short, sized_fmt-long}
use Rattle.hound_spec.proofs.header.write_fmt.Goals as goal

pub returns-then-is_short-clause-chunk : goal.returns-then-is_short-clause-chunk
returns-then-is_short-clause-chunk c =
    let s = c.args.spec_ex in
    let short : is_short s ≡ true = sym c.is_short.ensures ∙ c.if-is_short.true in
    c.write_pcmwaveformat.ensures ∙ append_assoc c.args.header.now (bytes_of 4 16) (short_fmt s)
    ∙ ap (λ l. c.args.header.now ++ l) (sym (sized_fmt-short s short))

pub returns-else-is_short-clause-chunk : goal.returns-else-is_short-clause-chunk
returns-else-is_short-clause-chunk c =
    let s = c.args.spec_ex in
    let long : is_short s ≡ false = sym c.is_short.ensures ∙ c.if-is_short.false in
    c.write_waveformatextensible.ensures
    ∙ append_assoc c.args.header.now (bytes_of 4 40) (long_fmt s)
    ∙ ap (λ l. c.args.header.now ++ l) (sym (sized_fmt-long s long))
