use Rattle.std.proofs.Common.{◌≡◌, ap, arith, inr, length, rules, subst}
use Rattle.hound_spec.specs.declared.spec.WavSpecEx.{WavSpecEx}
use Rattle.hound.specs.declared.session.Begin.TheVariants.{New}
use Rattle.hound.specs.Run.{IsNotBegunAs, Ran}
use Rattle.hound.proofs.Whole.{new_canonical, new_exact, part_of_header, ran}
use Rattle.hound.proofs.runs.run_session.Goals as goal

pub returns-in-Err-clause-begun : goal.returns-in-Err-clause-begun
returns-in-Err-clause-begun g c tells s is_new empty long =
    let W = g.M.Placed in
    let part = part_of_header W s c.args.medium c.in-Err.medium c.in-Err.error
    tells (subst (λ b. IsNotBegunAs W b c.args.medium c.in-Err.medium c.in-Err.error) is_new c.in-Err.ensures) in
    absurd (omega (arith, long, part.1, part.2, c.requires.place tells, ap length empty))

pub returns : goal.returns
returns g c =
    let W = g.M.Placed in
    let (calls, asked, marked, lead) = c.take_steps.ensures.runs in
    let (finished, finishes, same) = c.end_writer.ensures in
    let end = c.end_writer.result in
    let run = ran W c.args.begin c.args.steps.now c.take_steps.new.marks
    c.args.end c.args.medium end.1 finished end.0 c.in-Ok.writer c.take_steps.new.writer calls
    c.in-Ok.ensures lead asked marked finishes same (g.met.M.Medium.replays) in
    let new = λ (s : WavSpecEx) (is_new : c.args.begin ≡ New s).
    subst (λ b. Ran W b c.args.steps.now c.take_steps.new.marks c.args.end c.args.medium end.1 end.0) is_new run in
    record {
      size = search rules;
      session = inr run;
      begun = λ tells s is_new empty long. run;
      canonical = λ tells s is_new is_finalize. new_canonical (new s is_new) tells is_finalize;
      exact = λ tells s is_new writable empty none. new_exact (new s is_new) tells empty none;
    }
