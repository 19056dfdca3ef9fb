use Rattle.std.proofs.lemmas.Grind.{common_steps}
use Rattle.std.proofs.Common.{◌<◌, ◌∙◌, sym, ap, length, drop, arith, rules, length-drop, length-take}
use Rattle.hound_repair.proofs.Chunking.{content_is}
use Rattle.hound_repair.proofs.Stepping.{end_is, ends_here, known_here, none_here, one_here, short_here}
use Rattle.hound_repair.proofs.stages.take_chunk.Goals as goal

pub returns-then-place-end-clause-leads : goal.returns-then-place-end-clause-leads
returns-then-place-end-clause-leads c =
    λ looks file m at is. grind (
      arith,
      common_steps,
      m.held_is,
      ends_here looks file c.args.bytes.now c.args.damage.head c.args.place c.args.padded at is,
      known_here looks file c.args.bytes.now c.args.damage.head c.args.place c.args.padded at is,
      length-drop,
    )

pub returns-then-place-end-clause-nearer : goal.returns-then-place-end-clause-nearer
returns-then-place-end-clause-nearer c = λ n inside. c.found_as.ensures.nearer n _

pub returns-then-bytes-lt8-clause-leads : goal.returns-then-bytes-lt8-clause-leads
returns-then-bytes-lt8-clause-leads c = λ looks file m at is. c.at_no_chunk.ensures.leads looks file m at.0
    (short_here looks file c.args.bytes.now c.args.damage.head c.args.place c.args.padded at is
    (omega (arith, end_is file c.args.damage m)) (search rules) (omega arith))

pub returns-in-Some-clause-leads : goal.returns-in-Some-clause-leads
returns-in-Some-clause-leads c = λ looks file m at is. let all = drop c.args.place file in
    let end = end_is file c.args.damage m in
    let before : c.args.place < length file = omega (arith, end) in
    one_here looks file c.args.bytes.now c.args.damage.head c.args.place c.args.padded at is c.in-Some.content
    before (search rules)
    (sym (content_is all c.args.bytes.now _ 8 (omega (arith, end, length-drop c.args.place file))
    (omega (arith, end, before, ap length is, length-take 8 all, length-drop c.args.place file)) is)
    ∙ sym c.chunk_content.ensures.content ∙ c.in-Some.is)

pub returns-in-None-clause-leads : goal.returns-in-None-clause-leads
returns-in-None-clause-leads c = λ looks file m at is. let all = drop c.args.place file in
    let end = end_is file c.args.damage m in
    let before : c.args.place < length file = omega (arith, end) in
    c.at_no_chunk-in-None.ensures.leads looks file m at.0
    (none_here looks file c.args.bytes.now c.args.damage.head c.args.place c.args.padded at is before (search rules)
    (sym (content_is all c.args.bytes.now _ 8 (omega (arith, end, length-drop c.args.place file))
    (omega (arith, end, before, ap length is, length-take 8 all, length-drop c.args.place file)) is)
    ∙ sym c.chunk_content.ensures.content ∙ c.in-None.is))
