use Rattle.std.proofs.Common.{[]}
use Rattle.hound.specs.{accepted_samples}
use Rattle.hound_callers.proofs.recording.append_blocks.Goals as goal

pub returns : goal.returns
returns g c =
    let w = c.in_ok-writer.writer in
    let found = accepted_samples g.M.Placed.state w in
    let end = c.finalize_into-medium in (
      w,
      c.in_ok-writer.ensures.appends,
      λ modelled whole. let left = end.ensures.left w.spec_ex _ _
          (c.record_blocks.ensures w.spec_ex _ [] (c.in_ok-writer.ensures.recorded (λ modelled. whole))) in (
            c.an_append_keeps_the_front.ensures modelled w.spec_ex _ w.data_start found _ end.result.0 left,
            c.what_is_kept.ensures.at_end modelled w.spec_ex _ _ end.result.0 left,
          ),
    )
