use Rattle.std.proofs.Common.{◌≡◌, ◌≤◌, ◌++◌, List, drop, length}
use Rattle.hound.specs.{Begun, Known, Recorded, WavSpecEx}
use Rattle.hound_callers.specs.Recording.{containers_by, recorder_asks}
use Rattle.hound_callers.proofs.recording.record_blocks.Given as goal

abbrev pub invariant-loop-i : goal.invariant-loop-i
invariant-loop-i g l =
    let M = g.M.Placed in
    record {
      within : l.i ≤ length l.blocks;
      recorded : (s : WavSpecEx) (file : Begun) (known : List Known) → Recorded M s file known l.fn.writer
          → let f = containers_by g.S.Sample.container s in (asked : List Known)
          × Recorded M s file (known ++ asked) l.writer
          × (asked ++ recorder_asks f l.i (drop l.i l.blocks) ≡ recorder_asks f 0 l.blocks);
    }
