use Rattle.std.proofs.Common.{◌++◌, take}
use Rattle.std.specs.List.{flat_map}
use Rattle.hound_commands.specs.Commands.{GetsBuffered}
use Rattle.hound_commands.proofs.showing.push_lines.Given as goal

abbrev pub invariant-loop-sample : goal.invariant-loop-sample
invariant-loop-sample g l =
    GetsBuffered (g.O.Write.contents l.fn.output) (g.O.Write.contents l.output) l.lines
    (l.fn.lines ++ flat_map g.S.Line.line (take l.sample-index l.fn.samples))
