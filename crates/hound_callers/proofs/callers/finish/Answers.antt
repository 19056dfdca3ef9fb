use Rattle.std.proofs.Common.{◌≡◌, List, ◌++◌, Ok, Err, Result, OnOk}
use Rattle.hound.specs.{AreKnown, Begun, Call, Error, Finishes, Ghosts, Known, ReadsAs, Recorded, WavSpecEx, WriterState, accepted_by_all, accepted_samples, found_in, start_of}
use Rattle.hound_callers.proofs.callers.finish.Goals as goal

-- what is read after an end that was Ok
at_ok : {W : Type 0} (kind : Ghosts W) (w : WriterState W) (result : Result Unit Error) (end : W)
    → Finishes kind w result end
    → (Finishes kind w (Ok tt) end → (s : WavSpecEx) (file : Begun) (known : List Known)
    → Recorded kind s file known w → (calls : List Call) × AreKnown known calls
    × (accepted_samples kind.state w ≡ found_in file ++ accepted_by_all calls)
    × ReadsAs s (start_of s file) (found_in file ++ accepted_by_all calls) (kind.state end).contents)
    → OnOk result ((s : WavSpecEx) (file : Begun) (known : List Known) → Recorded kind s file known w
    → (calls : List Call) × AreKnown known calls
    × (accepted_samples kind.state w ≡ found_in file ++ accepted_by_all calls)
    × ReadsAs s (start_of s file) (found_in file ++ accepted_by_all calls) (kind.state end).contents)
at_ok kind w (Ok x) end finishes reads = reads finishes
at_ok kind w (Err e) end finishes reads = tt

pub returns-clause-reads : goal.returns-clause-reads
returns-clause-reads g c modelled =
    let end = c.finalize_into-medium in
    at_ok g.M.Placed c.args.writer end.result.1 end.result.0 end.ensures.finishes
    (λ finishes s file known recorded.
    c.an_ok_flush_is_kept.ensures.at_end modelled s file known c.args.writer end.result.0 recorded finishes)
