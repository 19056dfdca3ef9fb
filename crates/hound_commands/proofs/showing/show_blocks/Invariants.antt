use Rattle.std.proofs.Common.{◌≡◌, ◌≤◌, ◌-◌, length}
use Rattle.hound_commands.proofs.ShowAnswers.{Shown}
use Rattle.hound_commands.proofs.showing.show_blocks.Given as goal

abbrev pub invariant-loop-result : goal.invariant-loop-result
invariant-loop-result g l = record {
  block : length l.block ≡ length l.fn.block;
  spec_ex : l.reader.spec_ex ≡ l.fn.reader.spec_ex;
  num_samples : l.reader.num_samples ≡ l.fn.reader.num_samples;
  within : l.reader.samples_read ≤ l.fn.reader.num_samples;
  shown : Shown l.fn.reader.spec_ex l.reader.samples_read (g.R.Read.remaining l.fn.reader.reader.now)
      (g.R.Read.remaining l.reader.reader.now)
      (g.O.Write.contents l.fn.output) (g.O.Write.contents l.output) l.fn.lines l.lines;
}

-- the samples that are left
abbrev pub decreases-loop-result : goal.decreases-loop-result
decreases-loop-result g l = l.reader.num_samples - l.reader.samples_read
