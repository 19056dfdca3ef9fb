use Rattle.std.proofs.Common.{◌≡◌, ℕ, ◌+◌, ◌-◌, ◌≤◌, List, ◌++◌, length, take, sym, ◌∙◌, ap, arith, rules}
use Rattle.std.proofs.lemmas.Grind.{common_steps}
use Rattle.std.proofs.lemmas.List.{length-take-le, take-take}
use Rattle.std.proofs.lemmas.Slice.{take-put_mid}
use Rattle.std.proofs.Math.Seq.{take-append-add}
use borrow.Rule.Slice.PartMut.{put_mid}
use Rattle.hound_writer.proofs.block.Block.push.Goals as goal

-- four bytes that are stored in a list, of which the first ones count
pushed : (bytes four : List ℕ) (at k width : ℕ) → at + 4 ≤ length bytes → length four ≡ 4 → width ≤ 4
    → take (at + width) (put_mid at k bytes four) ≡ take at bytes ++ take width four
pushed bytes four at k width inside long few =
    let front : length (take at bytes) ≡ at = length-take-le at bytes (omega (arith, inside)) in
    sym (take-take (at + width) (at + 4) (put_mid at k bytes four) (omega (arith, few)))
    ∙ ap (take (at + width)) (take-put_mid at k bytes four (at + 4) (omega (arith, long)) (omega (arith, inside)))
    ∙ ap (λ n. take (n + width) (take at bytes ++ four)) (sym front)
    ∙ take-append-add (take at bytes) four width

pub returns : goal.returns
returns c =
    let inside = c.self.inside in
    let room : inside.length + 4 ≤ length inside.bytes = grind (arith, common_steps, c.self.view_is) in
    let k = inside.length + 4 - inside.length in
    let width = c.args.width in
    ap (λ l. take (inside.length + width) (put_mid inside.length k inside.bytes l)) c.copy_from_slice.ensures.after
    ∙ pushed inside.bytes c.args.container inside.length k width room (search rules) c.requires.width
    ∙ ap (λ l. l ++ take width c.args.container) c.self.view_is
