use Rattle.std.proofs.Common.{◌≡◌, ◌+◌, max, take, arith, subst}
use Rattle.hound.specs.{AgreeTo, end_of, overlay, placed}
use Rattle.hound_callers.proofs.recorder.a_cut_recording_counts.Goals as goal

pub returns-clause-cut : goal.returns-clause-cut
returns-clause-cut c s file known r m directed none inside =
    let (log, is, kept, counts) = c.a_recording_is_kept.ensures.cut s file known r m directed none in
    (log, is, kept, counts (take (end_of r) m.contents) (c.a_cut_is_ignored.ensures.cut (end_of r) m.contents inside))

pub returns-clause-continued : goal.returns-clause-continued
returns-clause-continued c s file known old r m new bytes result inside puts directed none ends =
    let (log, is, kept, counts) = c.a_recording_is_kept.ensures.cut s file known r new directed none in
    let n = end_of old in
    let cut = take n m.contents in
    let agree = c.a_cut_is_ignored.ensures.written n n bytes cut m new result
    (c.a_cut_is_ignored.ensures.cut n m.contents inside) (omega arith) puts in
    let at : max n (n + puts.count) ≡ end_of r = omega (arith, ends) in (
      log,
      is,
      kept,
      counts (overlay cut (placed n (take puts.count bytes)))
          (subst (λ k. AgreeTo k (overlay cut (placed n (take puts.count bytes))) new.contents) at agree),
    )
