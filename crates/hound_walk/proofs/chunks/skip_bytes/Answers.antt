use Rattle.std.proofs.Common.{◌≡◌, ◌++◌, arith, rules, length, length-append}
use Rattle.std.proofs.KnownBytes.{Consumes-trans}
use Rattle.hound_number.proofs.Counting.{NoneFailed-trans}
use Rattle.hound_walk.proofs.chunks.skip_bytes.Goals as goal

pub loop-left-preserved : goal.loop-left-preserved
loop-left-preserved g c =
    let (so_far, taken, count) = c.loop-left.invariant.1 in
    let size : length c.fill.new.buf ≡ c.min-now.result = search rules in (
      NoneFailed-trans _ _ _ c.loop-left.invariant.0 c.in_ok-fill.ensures.failures,
      (
        so_far ++ c.fill.new.buf,
        Consumes-trans _ _ _ _ _ taken c.in_ok-fill.ensures.ok,
        omega (arith, length-append so_far c.fill.new.buf, size, count),
      ),
    )
