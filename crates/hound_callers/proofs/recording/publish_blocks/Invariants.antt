use Rattle.std.proofs.Common.{◌≡◌, ◌+◌, ◌≤◌, IsOk, [], length, take}
use Rattle.std.specs.List.{All}
use Rattle.hound.specs.{Begun, Recorded, WavSpecEx, WhereTells, data_length, seen}
use Rattle.hound_callers.specs.Recording.{bytes_of_blocks, containers_by, published_calls}
use Rattle.hound_callers.proofs.recording.publish_blocks.Given as goal

abbrev pub invariant-loop-i : goal.invariant-loop-i
invariant-loop-i g l = record {
  within : l.i ≤ length l.blocks;
  spec : l.writer.spec_ex ≡ l.fn.writer.spec_ex;
  have : All (λ block. IsOk (containers_by g.S.Sample.container l.fn.writer.spec_ex block)) (take l.i l.blocks);
  published : (s : WavSpecEx) (file : Begun) → Recorded g.M.Placed s file [] l.fn.writer → Recorded g.M.Placed s file
      (seen (published_calls (containers_by g.S.Sample.container s) (take l.i l.blocks))) l.writer;
  start : l.writer.data_start ≡ l.fn.writer.data_start;
  longer : data_length l.writer ≡ data_length l.fn.writer
      + bytes_of_blocks (containers_by g.S.Sample.container l.fn.writer.spec_ex) (take l.i l.blocks);
  same_faults : WhereTells g.M.Placed.tells
      ((g.M.Placed.state l.writer.medium).faults ≡ (g.M.Placed.state l.fn.writer.medium).faults);
}
