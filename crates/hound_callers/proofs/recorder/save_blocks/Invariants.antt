use Rattle.std.proofs.Common.{◌≡◌, ◌+◌, ◌≤◌, [], length, take}
use Rattle.hound.specs.{Begun, WavSpecEx, WhereKeeps, WhereTells, seen}
use Rattle.hound.specs.declared.Phase.TheVariants.{Idle}
use Rattle.hound_callers.specs.Recorder.{CountsFaults, IsDirected, IsReady, samples_of, total_length}
use Rattle.hound_callers.specs.Recording.{published_calls}
use Rattle.hound_callers.proofs.recorder.save_blocks.Given as goal

abbrev pub invariant-loop-i : goal.invariant-loop-i
invariant-loop-i g l =
    let M = g.M.Placed in
    record {
      within : l.i ≤ length l.blocks;
      made : l.made ≤ length l.lost;
      ready : IsReady l.recorder;
      directed : WhereKeeps M.tells M.keeps ((s : WavSpecEx) (file : Begun)
          → IsDirected s file [] l.fn.recorder (M.state l.fn.medium)
          → IsDirected s file (seen (published_calls (samples_of s) (take l.i l.blocks))) l.recorder
          (M.state l.medium));
      grown : record l.recorder { phase = Idle } ≡ record l.fn.recorder {
        data_length = l.fn.recorder.data_length + total_length (take l.i l.blocks);
        phase = Idle;
      };
      faults : WhereTells M.tells (CountsFaults (M.state l.fn.medium) (M.state l.medium));
    }
