use Rattle.std.proofs.Common.{◌≡◌, ◌≤◌, ◌-◌, ◌*◌, IsTrue, length, map, take, drop}
use Rattle.hound_sample.specs.{containers}
use Rattle.hound_walk.specs.{unread}
use Rattle.hound_reader.specs.Blocks.{PassesBytes}
use Rattle.hound_reader.specs.Reader.{meaning_at}
use Rattle.hound_reader.proofs.blocks.get_many.Given as goal

abbrev pub invariant-loop-done : goal.invariant-loop-done
invariant-loop-done g l = record {
  within : l.done ≤ length l.samples;
  same : length l.samples ≡ length l.fn.samples;
  rest : drop l.done l.samples ≡ drop l.done l.fn.samples;
  passes : IsTrue g.R.Placed.tells
      → PassesBytes (l.done * l.spec_ex.bytes_per_sample) (g.R.Placed.state l.fn.reader.reader)
      (g.R.Placed.state l.reader.reader);
  samples : IsTrue g.R.Placed.tells → take l.done l.samples ≡ map (meaning_at g.S.Decode.value l.spec_ex)
      (containers l.spec_ex.bytes_per_sample l.done (unread (g.R.Placed.state l.fn.reader.reader)));
  faults : IsTrue g.R.Placed.tells
      → (g.R.Placed.state l.reader.reader).faults ≡ (g.R.Placed.state l.fn.reader.reader).faults;
}

abbrev pub decreases-loop-done : goal.decreases-loop-done
decreases-loop-done g l = length l.initial.samples - l.done
