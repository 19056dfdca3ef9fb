use Rattle.std.proofs.Common.{◌≡◌, ◌*◌, [], false, ap, arith, is_ok, length, rules}
use Rattle.hound_writer.specs.Accepting.{sample_bytes}
use Rattle.hound_writer.proofs.Answers.{is_error}
use Rattle.hound_writer.proofs.Accepting.{accepts_all, accepts_none}
use Rattle.hound_writer.proofs.AcceptingMany.{fit}
use Rattle.hound_writer.proofs.Blocks.{cut_at_once, kept_at_once}
use Rattle.hound_writer.proofs.output.Output.accept_samples_at_once.Goals as goal

pub invariant_of-self : goal.invariant_of-self
invariant_of-self g c =
    let W = g.W.Placed in
    let i = c.self.inside in
    let none : i.block ≡ [] = search rules in
    rw (c.clear.ensures, ← none, c.put_samples_at_end-result.ensures.moved, (ap is_ok c.in_err-result.was))
    (cut_at_once W _ _ _ c.self.invariant none _ (sample_bytes g.S.Sample.container i.spec_ex c.args.samples.now) false
    (rw (ap is_ok c.in_err-result.was) at c.put_samples_at_end-result.ensures.puts))

pub returns-in_err-result : goal.returns-in_err-result
returns-in_err-result g c =
    let W = g.W.Placed in
    let i = c.self.inside in
    let known = c.self.invariant in
    let none : i.block ≡ [] = search rules in
    let values = c.args.samples.now in
    let fits = rw (← c.self.view_is) at (fit g.S.Sample.container g.met.S.Sample.in_width values
    c.args.self.now c.requires.have c.requires.room) in
    rw (is_error _ _ c.from_residual.ensures.1, c.clear.ensures, ← none, ← c.self.view_is)
    (accepts_none W _ none known.sound known.at_most _
    (sample_bytes g.S.Sample.container i.spec_ex values) fits.room fits.whole _
    (rw (ap is_ok c.in_err-result.was) at c.put_samples_at_end-result.ensures.puts) (g.met.W.Medium.replays _))

pub invariant_of-self-2 : goal.invariant_of-self-2
invariant_of-self-2 g c =
    let W = g.W.Placed in
    let i = c.self.inside in
    let none : i.block ≡ [] = search rules in
    let values = c.args.samples.now in
    let fits = rw (← c.self.view_is) at (fit g.S.Sample.container g.met.S.Sample.in_width values
    c.args.self.now c.requires.have c.requires.room) in
    let bytes = sample_bytes g.S.Sample.container i.spec_ex values in
    let more : length values * i.spec_ex.bytes_per_sample ≡ length bytes = omega (arith, fits.size) in
    rw (c.clear.ensures, ← none, more, c.put_samples_at_end-result.ensures.moved, (ap is_ok c.in_ok-result.was))
    (kept_at_once W _ _ _ c.self.invariant none _ bytes _
    (rw more at c.fast_path_limit_of-self-inside.ensures.room) fits.room fits.whole
    (rw (ap is_ok c.in_ok-result.was) at c.put_samples_at_end-result.ensures.puts))

pub returns : goal.returns
returns g c =
    let W = g.W.Placed in
    let i = c.self.inside in
    let known = c.self.invariant in
    let none : i.block ≡ [] = search rules in
    let values = c.args.samples.now in
    let fits = rw (← c.self.view_is) at (fit g.S.Sample.container g.met.S.Sample.in_width values
    c.args.self.now c.requires.have c.requires.room) in
    let bytes = sample_bytes g.S.Sample.container i.spec_ex values in
    let more : length values * i.spec_ex.bytes_per_sample ≡ length bytes = omega (arith, fits.size) in
    rw (c.clear.ensures, ← none, more, ← c.self.view_is)
    (accepts_all W _ none known.sound known.at_most _ bytes
    fits.room fits.whole (rw (ap is_ok c.in_ok-result.was) at c.put_samples_at_end-result.ensures.puts)
    (g.met.W.Medium.replays _))
