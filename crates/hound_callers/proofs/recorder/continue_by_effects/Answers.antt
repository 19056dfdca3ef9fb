use Rattle.std.proofs.Common.{◌≡◌, ◌∙◌, arith, false, inr, is_ok, refl, true}
use Rattle.hound.specs.{Performed, effects_of, end_of, resumed_file}
use Rattle.std.proofs.lemmas.Bool.{false≢true}
use Rattle.hound_callers.proofs.Faultless.{full_as, is_error, no_fault_after}
use Rattle.hound_callers.proofs.Mending.{at_end, effects_synced, is_cut_off, is_mended}
use Rattle.hound_callers.proofs.Performing.{log_of, saves}
use Rattle.hound_callers.proofs.recorder.continue_by_effects.Goals as goal

pub returns-in_err-mend-clause-rejected : goal.returns-in_err-mend-clause-rejected
returns-in_err-mend-clause-rejected g c = rw (is_error _ _ c.from_residual-in_err-mend.ensures.1) (
    inr (
      c.in_err-mend.ensures.error,
      (λ tells keeps is_found.
          let M = g.M.Placed in
          let f = c.args.found in
          let r = c.in_ok-continued.continued in
          let medium = c.args.medium.now in
          let start = log_of (M.state medium) (g.met.M.Medium.replays medium tells keeps) (g.met.M.Placed.bytes medium
          tells) in
          let once = c.an_effect_may_be_repeated.ensures.once start.state (omega (
            arith,
            c.requires.synced tells
                keeps,
          )) in
          let (end, result, bad, done, now) = c.in_err-mend.ensures.performed tells keeps start once in
          let failed : is_ok result ≡ false = bad in
          let cut = is_cut_off f r start.state is_found c.in_ok-continued.ensures.resumes
          c.in_ok-continued.ensures.counted in
          let ((answer, mark, leaves), on) = c.a_recorder_directs.ensures.mended f true false start end r result
          c.in_ok-continued.ensures.resumes cut done in
          let lost = c.a_recording_is_kept.ensures.mended f true false start end r result
          c.in_ok-continued.ensures.resumes
          cut (c.requires.synced tells keeps) done in
          (r, end, (start, answer, c.in_ok-continued.ensures.resumes, refl, mark ∙ failed, leaves, lost), now)),
      λ kept tells fine. absurd (false≢true (c.in_err-mend.ensures.cause kept tells fine)),
    ))

pub returns-clause-saved : goal.returns-clause-saved
returns-clause-saved g c tells keeps is_found =
    let M = g.M.Placed in
    let f = c.args.found in
    let s = f.spec_ex in
    let r = c.in_ok-continued.continued in
    let medium = c.args.medium.now in
    let start = log_of (M.state medium) (g.met.M.Medium.replays medium tells keeps) (g.met.M.Placed.bytes medium tells)
    in
    let once = c.an_effect_may_be_repeated.ensures.once start.state (omega (arith, c.requires.synced tells keeps)) in
    let (end, result, ok, did, now) = c.in_ok-mend.ensures.performed tells keeps start once in
    let done : Performed (effects_of r) result start end = did in
    let all_synced = effects_synced r start end result ok done in
    let cut = is_cut_off f r start.state is_found c.in_ok-continued.ensures.resumes c.in_ok-continued.ensures.counted in
    let ((answer, mark, leaves), on) = c.a_recorder_directs.ensures.mended f true false start end r result
    c.in_ok-continued.ensures.resumes cut done in
    let (m, goes, moved) = at_end (end_of r) end _ now in
    let (samples, counted, directed) = on ok m goes in
    let begun = is_mended f r c.mend.new.recorder m (resumed_file s samples f.data_start end.state)
    c.in_ok-continued.ensures.resumes c.in_ok-mend.ensures.done directed in (
      r,
      end,
      samples,
      (
        start,
        answer,
        c.in_ok-continued.ensures.resumes,
        refl,
        mark ∙ ok,
        leaves,
        c.a_recording_is_kept.ensures.mended f true false start end r result c.in_ok-continued.ensures.resumes cut
            (c.requires.synced tells keeps) done,
      ),
      counted,
      saves s (resumed_file s samples f.data_start end.state) c.args.blocks.now c.save_blocks.result
          c.save_blocks.new.recorder _ c.save_blocks.ensures.within
          (λ known r m d none. c.a_recording_is_kept.ensures.survives s (resumed_file s samples f.data_start end.state)
          known r m d none all_synced)
          (c.save_blocks.ensures.saved tells keeps s (resumed_file s samples f.data_start end.state)
          (m.state, begun, moved)),
    )

pub returns-clause-cause : goal.returns-clause-cause
returns-clause-cause g c kept tells fine =
    let M = g.M.Placed in
    let r = c.in_ok-continued.continued in
    let after = no_fault_after (M.state c.args.medium.now) (M.state c.mend.new.medium) (M.state
    c.save_blocks.new.medium)
    (c.mend.ensures.faults tells) (c.save_blocks.ensures.faults tells) fine in (
      r,
      c.in_ok-continued.ensures.resumes,
      full_as r c.mend.new.recorder c.args.blocks.now c.save_blocks.result c.in_ok-mend.ensures.done
          (c.save_blocks.ensures.cause kept tells after),
    )
