use Rattle.std.proofs.lemmas.Grind.{common_steps}
use Rattle.std.proofs.Common.{◌++◌, arith, length-take, length-append, take}
use Rattle.std.proofs.KnownBytes.{Consumes-trans, Consumes-kept}
use Rattle.hound_number.proofs.Counting.{NoneFailed-trans}
use Rattle.hound_number.proofs.Pieces.{taken_beyond}
use Rattle.hound_number.proofs.input.read_into.Goals as goal

pub loop-at-preserved : goal.loop-at-preserved
loop-at-preserved g c = grind (arith, common_steps, NoneFailed-trans, taken_beyond)

pub returns-in-Ok-eq0-clause-part : goal.returns-in-Ok-eq0-clause-part
returns-in-Ok-eq0-clause-part g c =
    let before = take c.loop-at.at c.loop-at.buf in
    let given = take c.in-Ok-eq0.field-0 c.read_some.new.buf in (
      before ++ given,
      simp (length-append, length-take) (omega (arith, c.in-Ok-eq0.field-0-is)),
      Consumes-trans _ _ _ before given c.loop-at.invariant.taken c.in-Ok-eq0.ensures.bytes.0,
    )

pub returns-in-Err-clause-part : goal.returns-in-Err-clause-part
returns-in-Err-clause-part g c =
    let before = take c.loop-at.at c.loop-at.buf in (
      before,
      simp length-take (omega arith),
      Consumes-kept _ _ _ before c.loop-at.invariant.taken c.in-Err.ensures.bytes,
    )
