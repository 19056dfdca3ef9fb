use Rattle.std.proofs.Common.{◌≡◌, ◌∙◌, ap, ℕ, List, length, drop, Result, Ok, Err, IfOk}
use Rattle.hound.specs.{HasOneFileAnswer, readable, Readable, containers, ReaderState, OpensAs, Error, WavSpecEx}
use Rattle.hound.specs.declared.Error.TheVariants.{IoError}
use Rattle.hound_callers.proofs.callers.open_written.Goals as goal

-- The samples of bytes begin at one place, so those of an opened reader are left there.
left : {R : Type 0} (now : R → List ℕ) (s : WavSpecEx) (list : List (List ℕ)) (start : ℕ) (bytes : List ℕ)
    (result : Result (ReaderState R) Error) → HasOneFileAnswer bytes
    → Readable bytes s (length list) start
    × (containers s.bytes_per_sample (length list) (drop start bytes) ≡ list)
    → IfOk result (λ r. (h : ℕ) × Readable bytes r.spec_ex r.num_samples h × (now r.reader ≡ drop h bytes))
    → OpensAs result (λ r. (r.spec_ex ≡ s) × (r.num_samples ≡ length list))
    → OpensAs result (λ r. (r.spec_ex ≡ s) × (r.num_samples ≡ length list)
    × (containers s.bytes_per_sample (length list) (now r.reader) ≡ list))
left now s list start bytes (Ok r) (a, _, one) (read, same) (h, found, beyond) (spec, samples) =
    let here = one (readable r.spec_ex r.num_samples h) found in
    let there = one (readable s (length list) start) read in
    let place : h ≡ start = cc in (
      spec,
      samples,
      ap (λ rest. containers s.bytes_per_sample (length list) rest) (beyond ∙ ap (λ k. drop k bytes) place) ∙ same,
    )
left now s list start bytes (Err (IoError e)) one read found opens = tt
left now s list start bytes (Err _) one read found opens = absurd opens

pub returns : goal.returns
returns c s list writable each is =
    let read = rw (← is) at (c.written_is_read.ensures s list writable each) in
    left (λ r. r.now) s list _ c.args.bytes.now c.new.result
    (c.one_answer.ensures.file c.args.bytes.now) read c.new.ensures.found
    (c.new.ensures.readable s (length list) _ read.0)
