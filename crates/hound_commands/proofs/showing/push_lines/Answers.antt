use Rattle.std.proofs.Common.{◌≡◌, ◌+◌, ◌∷◌, [], ◌++◌, take, drop, get_or, ap, sym, subst, ◌∙◌, append_assoc, append-nil, take-append-drop, arith}
use Rattle.std.proofs.lemmas.Grind.{common_steps, flat_map-append}
use Rattle.std.specs.List.{flat_map}
use Rattle.std.proofs.Transfers.{starts_with_of_append}
use Rattle.hound_commands.proofs.Outputs.{gets-more, gets-then, stopped-within}
use Rattle.hound_commands.specs.Commands.{GetsBuffered}
use Rattle.hound_commands.proofs.showing.push_lines.Goals as goal

pub returns-in_err-make_room : goal.returns-in_err-make_room
returns-in_err-make_room g c =
    let line = g.S.Line.line in
    let i = c.loop-sample.sample-index in
    let xs = c.args.samples.now in
    let text = c.args.lines.now ++ flat_map line (take i xs) in
    stopped-within _ c.from_residual.result _ _ _ text _ (c.args.lines.now ++ flat_map line xs) _
    c.from_residual.ensures.1 c.loop-sample.invariant c.in_err-make_room.ensures.moved
    (starts_with_of_append _ text (flat_map line (drop i xs))
    (ap (λ l. c.args.lines.now ++ flat_map line l) (sym (take-append-drop i xs))
    ∙ ap (λ l. c.args.lines.now ++ l) (flat_map-append line (take i xs) (drop i xs))
    ∙ sym (append_assoc c.args.lines.now (flat_map line (take i xs)) (flat_map line (drop i xs)))))

pub loop-sample-preserved : goal.loop-sample-preserved
loop-sample-preserved g c =
    let line = g.S.Line.line in
    let i = c.loop-sample.sample-index in
    let xs = c.args.samples.now in
    let first = c.args.lines.now in
    let before = flat_map line (take i xs) in
    let sample = c.sample-item.result in
    let item : sample ≡ get_or xs i sample = c.sample-item.is in
    let inside = c.loop-sample-test.true in
    let next : take i xs ++ sample ∷ [] ≡ take (i + 1) xs = grind (arith, common_steps) in
    let more : before ++ line sample ≡ flat_map line (take (i + 1) xs) =
    ap (λ l. before ++ l) (sym (append-nil (line sample)))
    ∙ sym (flat_map-append line (take i xs) (sample ∷ [])) ∙ ap (flat_map line) next in
    let old = g.O.Write.contents c.args.output.now in
    let new = g.O.Write.contents c.make_room.new.output in
    subst (λ l. GetsBuffered old new l (first ++ flat_map line (take (i + 1) xs))) (sym c.push_to.ensures)
    (subst (GetsBuffered old new (c.make_room.new.lines ++ line sample))
    (append_assoc first before (line sample) ∙ ap (λ l. first ++ l) more)
    (gets-more old new (first ++ before) c.make_room.new.lines (line sample)
    (gets-then old (g.O.Write.contents c.loop-sample.output) new (first ++ before) c.loop-sample.lines
    c.make_room.new.lines c.loop-sample.invariant
    c.in_ok-make_room.ensures.moved)))
