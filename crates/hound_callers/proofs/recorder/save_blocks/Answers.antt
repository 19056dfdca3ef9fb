use Rattle.std.proofs.Common.{◌≡◌, [], append-nil, arith, length, subst, sym}
use Rattle.std.proofs.lemmas.List.{map-append}
use Rattle.hound.proofs.Knowing.{at_ok}
use Rattle.hound_callers.specs.Recorder.{IsDirected, samples_of}
use Rattle.hound_callers.proofs.Performing.{at_err, none_left, none_saved}
use Rattle.hound_callers.proofs.Faultless.{faults_add, grown_more, no_fault_after, takes_no_more, takes_none}
use Rattle.hound_callers.proofs.Publishing.{seen_more}
use Rattle.hound_callers.proofs.recorder.save_blocks.Goals as goal

pub loop-i-preserved : goal.loop-i-preserved
loop-i-preserved g c =
    let ok = c.if-is_err.ensures.negation in
    record {
      within = omega (arith, c.loop-i-test.true);
      made = c.save_block.ensures.within;
      ready = at_ok c.save_block.result ok c.save_block.ensures.counted;
      directed = λ tells keeps s file d.
          subst (λ l. IsDirected s file l c.save_block.new.recorder (g.M.Placed.state c.save_block.new.medium))
          (sym (seen_more (samples_of s) c.args.blocks.now c.loop-i.i _ c.loop-i-test.true))
          (at_ok c.save_block.result ok c.save_block.ensures.saved tells keeps s file _
          (c.loop-i.invariant.directed tells keeps s file d));
      grown = grown_more c.args.recorder.now c.loop-i.recorder c.save_block.new.recorder c.args.blocks.now c.loop-i.i _
          c.loop-i-test.true c.loop-i.invariant.grown (at_ok c.save_block.result ok c.save_block.ensures.longer);
      faults = λ tells. let M = g.M.Placed in
          faults_add (M.state c.args.medium.now) (M.state c.loop-i.medium) (M.state c.save_block.new.medium)
          (c.loop-i.invariant.faults tells) (c.save_block.ensures.faults tells);
    }

pub returns-then-is_err-clause-saved : goal.returns-then-is_err-clause-saved
returns-then-is_err-clause-saved g c tells keeps s file d =
    let (more, stops, zero, now) =
    at_err c.save_block.result c.if-is_err.ensures.negation c.save_block.ensures.stopped tells keeps s file _
    (c.loop-i.invariant.directed tells keeps s file d) in (
      more,
      none_saved s c.save_block.new.recorder c.args.blocks.now c.loop-i.i _ more c.loop-i-test.true stops,
      zero,
      rw map-append now,
    )

pub returns-clause-saved : goal.returns-clause-saved
returns-clause-saved g c tells keeps s file d =
    let all : c.loop-i.i ≡ length c.args.blocks.now = omega (arith, c.loop-i.invariant.within, c.loop-i-test.false) in (
      [],
      none_left s c.loop-i.recorder c.args.blocks.now _ (omega arith),
      c.loop-i.invariant.ready.0,
      rw append-nil (rw all at (c.loop-i.invariant.directed tells keeps s file d)),
    )

pub returns-then-is_err-clause-faults : goal.returns-then-is_err-clause-faults
returns-then-is_err-clause-faults g c tells =
    let M = g.M.Placed in
    faults_add (M.state c.args.medium.now) (M.state c.loop-i.medium) (M.state c.save_block.new.medium)
    (c.loop-i.invariant.faults tells) (c.save_block.ensures.faults tells)

pub returns-then-is_err-clause-cause : goal.returns-then-is_err-clause-cause
returns-then-is_err-clause-cause g c kept tells fine =
    let M = g.M.Placed in
    let after = no_fault_after (M.state c.args.medium.now) (M.state c.loop-i.medium) (M.state c.save_block.new.medium)
    (c.loop-i.invariant.faults tells) (c.save_block.ensures.faults tells) fine in
    takes_no_more c.args.recorder.now c.loop-i.recorder c.args.blocks.now c.loop-i.i _ c.loop-i-test.true
    c.loop-i.invariant.grown (c.save_block.ensures.cause kept tells after c.if-is_err.ensures.negation)

pub returns-clause-cause : goal.returns-clause-cause
returns-clause-cause g c kept tells fine =
    takes_none c.args.recorder.now c.args.blocks.now (length c.args.blocks.now) (omega arith)
