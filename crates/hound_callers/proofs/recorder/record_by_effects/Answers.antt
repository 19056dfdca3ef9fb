use Rattle.std.proofs.Common.{◌∙◌, arith, refl, subst, sym}
use Rattle.hound.specs.{Recorder, at_beginning, new_file}
use Rattle.hound_callers.specs.Recorder.{IsFull}
use Rattle.hound.proofs.Begun.{begun_within}
use Rattle.hound_callers.proofs.Performing.{log_of, saves}
use Rattle.hound_callers.proofs.recorder.record_by_effects.Goals as goal

pub returns-clause-saved : goal.returns-clause-saved
returns-clause-saved g c tells keeps empty =
    let M = g.M.Placed in
    let s = c.args.spec_ex in
    let old = M.state c.args.medium.now in
    let file = new_file (at_beginning old) in
    let mid = c.begin_by_effects.new.medium in
    let log = log_of _ (g.met.M.Medium.replays mid tells keeps) (g.met.M.Placed.bytes mid tells) in
    let opened = rw keeps at (c.in_ok-begin_by_effects.ensures.opened.1 tells empty) in
    let begun = c.a_recorder_directs.ensures.new s old log c.in-Ok.recorder opened c.in-Ok.ensures in
    let once = c.an_effect_may_be_repeated.ensures.once log.state (begun_within s old log.state opened) in
    saves s file c.args.blocks.now c.save_blocks.result c.save_blocks.new.recorder _ c.save_blocks.ensures.within
    (λ known r m d none. c.a_recording_is_kept.ensures.survives s file known r m d none refl)
    (c.save_blocks.ensures.saved tells keeps s file (log.state, begun, once))

pub returns-clause-cause : goal.returns-clause-cause
returns-clause-cause g c kept tells fine =
    let M = g.M.Placed in
    let same = c.in_ok-begin_by_effects.ensures.faults tells in
    subst (λ (r : Recorder). IsFull r c.args.blocks.now c.save_blocks.result) c.in-Ok.ensures.1
    (c.save_blocks.ensures.cause kept tells (fine.0 ∙ sym same, omega (arith, fine.1, same)))
