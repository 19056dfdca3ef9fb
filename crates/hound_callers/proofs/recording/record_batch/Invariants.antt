use Rattle.std.proofs.Common.{◌≡◌, ◌+◌, List, length, take}
use Rattle.std.specs.List.{flat_map}
use Rattle.hound.specs.{IsSameFile, batch_bytes, batch_lender, batch_writer, remaining, Begun, Known, Recorded, signed_bytes_of, WavSpecEx}
use Rattle.hound_callers.proofs.recording.record_batch.Given as goal

abbrev pub invariant-loop-value : goal.invariant-loop-value
invariant-loop-value g l = record {
  lender : batch_lender l.values ≡ batch_lender l.initial.values;
  left : remaining l.values + l.value-index ≡ length l.batch;
  written : batch_bytes l.values ≡ flat_map (signed_bytes_of 2) (take l.value-index l.batch);
  stays : IsSameFile l.fn.writer (batch_writer l.values);
  recorded : (s : WavSpecEx) (file : Begun) (known : List Known) → Recorded g.M.Placed s file known l.fn.writer
      → Recorded g.M.Placed s file known (batch_writer l.values);
}
