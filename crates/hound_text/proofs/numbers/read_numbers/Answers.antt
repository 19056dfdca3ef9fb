use Rattle.std.proofs.Common.{◌≡◌, ◌++◌, [], take, drop, ap, arith, rules}
use Rattle.hound_text.proofs.Leading.{rejected, says_at_end, silent_at_end, silent_where_broken, split_front}
use Rattle.hound_text.proofs.numbers.read_numbers.Goals as goal

pub returns-in_err-end_of_word-clause-rejected : goal.returns-in_err-end_of_word-clause-rejected
returns-in_err-end_of_word-clause-rejected g c =
    let none : take c.in-Ok.count c.read.new.buf ≡ [] = ap (λ n. take n c.read.new.buf) c.if-count-eq0.true in
    rejected _ _ _ _ c.from_residual.ensures.1 c.in_err-end_of_word.ensures.rejected
    (silent_at_end _ _ _ _ _ _ c.loop-count.invariant.follows c.in-Ok.ensures.bytes.0 none
    (c.in-Ok.ensures.bytes.1 c.if-count-eq0.true (search rules)))

pub returns-then-count-eq0-clause-numbers : goal.returns-then-count-eq0-clause-numbers
returns-then-count-eq0-clause-numbers g c =
    let none : take c.in-Ok.count c.read.new.buf ≡ [] = ap (λ n. take n c.read.new.buf) c.if-count-eq0.true in
    says_at_end _ _ _ _ _ _ _ c.loop-count.invariant.follows c.in-Ok.ensures.bytes.0 none
    (c.in-Ok.ensures.bytes.1 c.if-count-eq0.true (search rules)) c.in_ok-end_of_word.ensures.ended

pub returns-in_err-place-clause-rejected : goal.returns-in_err-place-clause-rejected
returns-in_err-place-clause-rejected g c =
    let front = take c.min-taken.result c.read.new.buf in
    let back = drop c.min-taken.result (take c.in-Ok.count c.read.new.buf) in
    let split : take c.in-Ok.count c.read.new.buf ≡ front ++ back =
    split_front c.min-taken.result c.in-Ok.count c.read.new.buf (omega arith) in
    rejected _ _ _ _ c.from_residual-in_err-place.ensures.1 c.in_err-place.ensures.rejected
    (silent_where_broken _ _ _ _ _ _ front back c.loop-count.invariant.follows c.in-Ok.ensures.bytes.0 split)
