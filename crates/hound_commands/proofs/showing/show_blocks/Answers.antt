use Rattle.std.proofs.Common.{rules, ◌≡◌, ◌<◌, OnOk, length, min, refl, sym, subst, arith, length-take}
use Rattle.hound_reader.specs.{samples_left}
use Rattle.hound_commands.specs.Commands.{failure_of}
use Rattle.hound_commands.specs.declared.error.CommandError.TheVariants.{InputOrOutput}
use Rattle.hound_commands.proofs.ShowAnswers.{all_shown, block_fails, block_shown, block_stops, stops_as, Shown, none_shown}
use Rattle.hound_commands.proofs.showing.show_blocks.Goals as goal

pub loop-result-init : goal.loop-result-init
loop-result-init g c = record {
  block = refl;
  spec_ex = refl;
  num_samples = refl;
  within = omega (arith, c.requires.fresh);
  shown = none_shown c.args.reader.now.spec_ex _ _ _ _ c.requires.fresh;
}

pub returns-in_err-push_lines : goal.returns-in_err-push_lines
returns-in_err-push_lines g c =
    let s = c.args.reader.now.spec_ex in
    let n = c.args.reader.now.num_samples in
    let loop = c.loop-result.invariant in
    stops_as s n c.from_residual.result InputOrOutput _ _ _ _ _ c.from_residual.ensures.1
    (block_stops _ _ g.S.Line.line s n _ _ _ _ _ _ _ c.read_samples-count.result.1
    _ _ c.requires.rejection c.requires.line loop.spec_ex loop.num_samples refl loop.within loop.shown
    c.read_samples-count.ensures.items _ _
    c.in_err-push_lines.ensures)

pub returns-in_err-result : goal.returns-in_err-result
returns-in_err-result g c =
    let s = c.args.reader.now.spec_ex in
    let n = c.args.reader.now.num_samples in
    let loop = c.loop-result.invariant in
    stops_as s n c.from_residual-in_err-result.result (failure_of c.in_err-result.field-0.0) _ _ _ _ _
    c.from_residual-in_err-result.ensures.1
    (block_fails _ _ g.S.Line.line s n _ _ _ _ _ _ _ c.read_samples-count.result.1
    _ _ c.requires.rejection c.requires.line loop.spec_ex loop.num_samples refl loop.within loop.shown
    c.read_samples-count.ensures.items _ _
    c.in_err-result.field-0.0 c.in_err-result.was c.in_ok-push_lines.ensures)

pub returns-then-count-eq0 : goal.returns-then-count-eq0
returns-then-count-eq0 g c =
    let s = c.args.reader.now.spec_ex in
    let n = c.args.reader.now.num_samples in
    let loop = c.loop-result.invariant in
    let block = block_shown _ _ g.S.Line.line s n _ _ _ _ _ _ _ c.read_samples-count.result.1
    _ _ c.requires.rejection c.requires.line loop.spec_ex loop.num_samples refl loop.within loop.shown
    c.read_samples-count.ensures.items _ _ _ c.in_ok-result.was c.in_ok-push_lines.ensures in
    let none = c.if-count-eq0.true in
    let few = length-take c.read_samples-count.result.0 c.read_samples-count.new.samples in
    let count : c.read_samples-count.result.0
    ≡ min (length c.read_samples-count.new.samples) (samples_left c.loop-result.reader) =
    subst (λ r. OnOk r (c.read_samples-count.result.0
    ≡ min (length c.read_samples-count.new.samples) (samples_left c.loop-result.reader)))
    c.in_ok-result.was c.read_samples-count.ensures.all in
    let some : 0 < length c.read_samples-count.new.samples = search rules in
    all_shown s _ n _ _ _ _ _ _
    (omega (arith, none, count, few, some, loop.within, loop.num_samples, block.4)) block.0

pub loop-result-preserved : goal.loop-result-preserved
loop-result-preserved g c =
    let s = c.args.reader.now.spec_ex in
    let n = c.args.reader.now.num_samples in
    let loop = c.loop-result.invariant in
    let block = block_shown _ _ g.S.Line.line s n _ _ _ _ _ _ _ c.read_samples-count.result.1
    _ _ c.requires.rejection c.requires.line loop.spec_ex loop.num_samples refl loop.within loop.shown
    c.read_samples-count.ensures.items _ _ _ c.in_ok-result.was c.in_ok-push_lines.ensures in
    record {
      block = search rules;
      spec_ex = block.1;
      num_samples = block.2;
      within = omega (arith, block.3, block.4);
      shown = subst (λ k. Shown s k (g.R.Read.remaining c.args.reader.now.reader.now)
          (g.R.Read.remaining c.read_samples-count.new.self.reader.now)
          (g.O.Write.contents c.args.output.now) (g.O.Write.contents c.push_lines.new.output)
          c.args.lines.now c.push_lines.new.lines) (sym block.3) block.0;
    }
