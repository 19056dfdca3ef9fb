use Rattle.std.proofs.lemmas.Grind.{common_steps}
use Rattle.std.proofs.Common.{◌≡◌, ◌+◌, ◌-◌, ◌%◌, ◌++◌, nat_lt, decimal, drop, drop-drop, length-drop, ap, sym, ◌∙◌, append_assoc, arith}
use Rattle.std.proofs.lemmas.List.{take_all}
use Rattle.std.proofs.lemmas.Nat.{pow-add}
use Rattle.hound_text.proofs.Decimals.{decimal_more, decimal_small, pair, pair-copied}
use Rattle.hound_text.proofs.lines.Lines.push_decimal.Goals as goal
use borrow.Rule.Slice.PartMut.{put_mid, same_len_mid}
use mir.Val.{bool_byte}

pub loop-number-preserved : goal.loop-number-preserved
loop-number-preserved c = grind (arith, common_steps, pow-add, pair-copied, append_assoc, pair, decimal_more)

pub returns : goal.returns
returns c =
    let loop = c.loop-number in
    let number = loop.number in
    let small = c.if-number-lt100.true in
    let zeros = bool_byte (nat_lt number 10) in
    let text = put_mid loop.start (loop.start + 2 - loop.start) loop.text c.copy_from_slice.new.self in
    let tail = drop (loop.start + 2) loop.text in
    let made : drop (loop.start + zeros) text ≡ decimal number ++ tail = sym (drop-drop zeros loop.start text)
    ∙ ap (drop zeros) (pair-copied (number % 100) loop.start loop.text _ (omega arith)
    (omega (arith, loop.invariant.within, loop.array_long)) c.copy_from_slice.ensures.after
    ∙ ap (λ n. pair n ++ tail) (omega (arith, small))) ∙ decimal_small number tail small in
    c.append.ensures
    ∙ ap (λ l. c.args.self.now ++ l)
    (take_all (10 - (loop.start + zeros)) (drop (loop.start + zeros) text) (omega (
      arith,
      length-drop (loop.start + zeros) text,
      same_len_mid _ _ loop.text _ c.copy_from_slice.ensures.len,
      loop.array_long,
    ))
    ∙ made ∙ loop.invariant.digits)
