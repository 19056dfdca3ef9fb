use Rattle.std.proofs.Common.{
  Ok,
  ◌≡◌,
  ◌∷◌,
  ◌++◌,
  ◌/◌,
  ◌∙◌,
  [],
  ap,
  append_assoc,
  false,
  inl,
  inr,
  length,
  refl,
  subst,
  sym,
  true,
}
use Rattle.hound.specs.{Directed, Recorder, length_with, publish, seen, write}
use Rattle.hound.specs.declared.Phase.TheVariants.{Saving, Requested}
use Rattle.hound_callers.specs.Recorder.{Stops, samples_of}
use Rattle.std.proofs.lemmas.Bool.{false≢true}
use Rattle.hound.proofs.Knowing.{at_ok}
use Rattle.hound_callers.proofs.Faultless.{asked_data, faults_add, no_fault_after, saved_as, saving_data}
use Rattle.hound_callers.proofs.Performing.{
  begins_block,
  begins_checkpoint,
  not_taken,
  nothing_given,
  on_err,
  on_ok,
  stopped_before,
  whole_samples,
}
use Rattle.hound_callers.proofs.recorder.save_block.Goals as goal

pub returns-then-block-width-ne0-clause-stopped : goal.returns-then-block-width-ne0-clause-stopped
returns-then-block-width-ne0-clause-stopped g c tells keeps s file known d =
    stopped_before s file known _ c.args.block _ (inl c.if-block-width-ne0.true) c.requires.ready.0 d

pub returns-in_err-write-clause-stopped : goal.returns-in_err-write-clause-stopped
returns-in_err-write-clause-stopped g c =
    on_err c.from_residual.result (λ err tells keeps s file known d.
    let r = c.args.recorder.now in
    let (same, rejected) = not_taken r c.write.new.self c.args.block c.in_err-write.field-0.0 c.if-block-width-ne0.false
    c.requires.ready c.in_err-write.ensures in
    subst (λ x. Stops s file known c.args.block x (g.M.Placed.state c.args.medium.now)) (sym same)
    (stopped_before s file known r c.args.block _ rejected c.requires.ready.0 d))

pub returns-in_err-perform_all-clause-stopped : goal.returns-in_err-perform_all-clause-stopped
returns-in_err-perform_all-clause-stopped g c = on_err c.from_residual-in_err-perform_all.result
    (λ err tells keeps s file known (once, d, repeats).
    let M = g.M.Placed in
    let old = c.args.recorder.now in
    let (end, gives, takes) = begins_block old c.write.new.self _ (Ok tt) c.in_ok-write.ensures in
    let first = (c.a_recorder_directs.ensures.asked s file known old end c.write.new.self once
    (length c.args.block.now / old.bytes_per_sample) (Ok tt) d gives).1 takes in
    let two : c.write.new.self.phase ≡ Requested (length_with end (length c.args.block.now / old.bytes_per_sample)) =
    ap (λ (x : Recorder). x.phase) takes.4 in
    let (none, stopped) = c.in_err-perform_all.ensures.directed tells keeps s file known (once, first, repeats) in
    ((write (samples_of s c.args.block), false) ∷ [], inr (inl refl), none, rw two at stopped))

pub returns-clause-saved : goal.returns-clause-saved
returns-clause-saved g c = on_ok c.perform_all-2.result (λ ok tells keeps s file known (once, d, repeats).
    let M = g.M.Placed in
    let old = c.args.recorder.now in
    let (end, gives, takes) = begins_block old c.write.new.self _ (Ok tt) c.in_ok-write.ensures in
    let first = (c.a_recorder_directs.ensures.asked s file known old end c.write.new.self once
    (length c.args.block.now / old.bytes_per_sample) (Ok tt) d gives).1 takes in
    let two : c.write.new.self.phase ≡ Requested (length_with end (length c.args.block.now / old.bytes_per_sample)) =
    ap (λ (x : Recorder). x.phase) takes.4 in
    let (end_once, written, end_repeats) =
    rw two at (c.in_ok-perform_all.ensures.directed tells keeps s file known (once, first, repeats)).1 in
    let mid = c.perform_all.new.recorder in
    let (last, gave, is) = begins_checkpoint mid c.checkpoint.new.self c.checkpoint.ensures in
    let second = subst (λ r. Directed s file (known ++ seen ((write (samples_of s c.args.block), true) ∷ [])) r
    end_once) (sym is) (c.a_recorder_directs.ensures.asked s file _ mid last c.checkpoint.new.self end_once 0 (Ok tt)
    written gave).0 in
    let one : c.checkpoint.new.self.phase ≡ Saving = ap (λ (x : Recorder). x.phase) is in
    let (none, saved) = c.perform_all-2.ensures.directed tells keeps s file _ (end_once, second, end_repeats) in
    rw (one, ok, append_assoc) at saved)

pub returns-clause-stopped : goal.returns-clause-stopped
returns-clause-stopped g c = on_err c.perform_all-2.result (λ err tells keeps s file known (once, d, repeats).
    let M = g.M.Placed in
    let old = c.args.recorder.now in
    let (end, gives, takes) = begins_block old c.write.new.self _ (Ok tt) c.in_ok-write.ensures in
    let first = (c.a_recorder_directs.ensures.asked s file known old end c.write.new.self once
    (length c.args.block.now / old.bytes_per_sample) (Ok tt) d gives).1 takes in
    let two : c.write.new.self.phase ≡ Requested (length_with end (length c.args.block.now / old.bytes_per_sample)) =
    ap (λ (x : Recorder). x.phase) takes.4 in
    let (end_once, written, end_repeats) =
    rw two at (c.in_ok-perform_all.ensures.directed tells keeps s file known (once, first, repeats)).1 in
    let mid = c.perform_all.new.recorder in
    let (last, gave, is) = begins_checkpoint mid c.checkpoint.new.self c.checkpoint.ensures in
    let second = subst (λ r. Directed s file (known ++ seen ((write (samples_of s c.args.block), true) ∷ [])) r
    end_once) (sym is) (c.a_recorder_directs.ensures.asked s file _ mid last c.checkpoint.new.self end_once 0 (Ok tt)
    written gave).0 in
    let one : c.checkpoint.new.self.phase ≡ Saving = ap (λ (x : Recorder). x.phase) is in
    let (none, saved) = c.perform_all-2.ensures.directed tells keeps s file _ (end_once, second, end_repeats) in (
      (write (samples_of s c.args.block), true) ∷ (publish, false) ∷ [],
      inr (inr refl),
      none,
      rw (one, err, append_assoc) at saved,
    ))

pub returns-clause-longer : goal.returns-clause-longer
returns-clause-longer g c = on_ok c.perform_all-2.result (λ ok.
    let old = c.args.recorder.now in
    let (end, gives, takes) = begins_block old c.write.new.self _ (Ok tt) c.in_ok-write.ensures in
    let mid = c.perform_all.new.recorder in
    let (last, gave, is) = begins_checkpoint mid c.checkpoint.new.self c.checkpoint.ensures in
    saved_as old end c.write.new.self mid last c.checkpoint.new.self c.perform_all-2.new.recorder
    (length c.args.block.now / old.bytes_per_sample) (length c.args.block.now)
    (nothing_given old end c.requires.ready.2 gives) takes.4 c.in_ok-perform_all.ensures.done gave is
    (at_ok c.perform_all-2.result ok c.perform_all-2.ensures.done) c.requires.ready.0 c.requires.ready.1
    (whole_samples (length c.args.block.now) old.bytes_per_sample c.if-block-width-ne0.false))

pub returns-then-block-width-ne0-clause-cause : goal.returns-then-block-width-ne0-clause-cause
returns-then-block-width-ne0-clause-cause g c kept tells fine bad = inl c.if-block-width-ne0.true

pub returns-in_err-write-clause-cause : goal.returns-in_err-write-clause-cause
returns-in_err-write-clause-cause g c kept tells fine bad =
    (not_taken c.args.recorder.now c.write.new.self c.args.block c.in_err-write.field-0.0 c.if-block-width-ne0.false
    c.requires.ready c.in_err-write.ensures).1

pub returns-in_err-perform_all-clause-cause : goal.returns-in_err-perform_all-clause-cause
returns-in_err-perform_all-clause-cause g c kept tells fine bad =
    let old = c.args.recorder.now in
    let (end, gives, takes) = begins_block old c.write.new.self _ (Ok tt) c.in_ok-write.ensures in
    absurd (false≢true (c.in_err-perform_all.ensures.cause (asked_data old end c.write.new.self _ takes) kept tells
    fine))

pub returns-clause-faults : goal.returns-clause-faults
returns-clause-faults g c tells =
    let M = g.M.Placed in
    faults_add (M.state c.args.medium.now) (M.state c.perform_all.new.medium) (M.state c.perform_all-2.new.medium)
    (c.perform_all.ensures.faults tells) (c.perform_all-2.ensures.faults tells)

pub returns-clause-cause : goal.returns-clause-cause
returns-clause-cause g c kept tells fine bad =
    let M = g.M.Placed in
    let old = c.args.recorder.now in
    let (end, gives, takes) = begins_block old c.write.new.self _ (Ok tt) c.in_ok-write.ensures in
    let mid = c.perform_all.new.recorder in
    let (last, gave, is) = begins_checkpoint mid c.checkpoint.new.self c.checkpoint.ensures in
    let after = no_fault_after (M.state c.args.medium.now) (M.state c.perform_all.new.medium)
    (M.state c.perform_all-2.new.medium) (c.perform_all.ensures.faults tells) (c.perform_all-2.ensures.faults tells)
    fine in
    absurd (false≢true (sym bad ∙ c.perform_all-2.ensures.cause (saving_data old.phase end c.write.new.self mid last
    c.checkpoint.new.self _ takes c.in_ok-perform_all.ensures.done gave is) kept tells after))
