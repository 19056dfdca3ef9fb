-- A recorder of a file that was found, and may not be changed after its data.
use Rattle.std.proofs.lemmas.Grind.{common_steps}
use Rattle.std.proofs.Common.{◌≡◌, ◌⊎◌, ◌<◌, ◌≤◌, ◌+◌, ◌*◌, ◌%◌, ◌/◌, ℕ, Bool, true, false, List, [], ◌∷◌, drop, take, length, inl, inr, Result, Ok, Err, refl, sym, ◌∙◌, ap, subst, arith}
use Rattle.std.proofs.Math.Nat.{div-add-mod', le-mul_of_pos_right, mul-mod_left}
use Rattle.std.specs.Prelude.{if◌then◌else◌, nat_lt}
use Rattle.hound.specs.{AppendsRecorder, ContinuesAfter, Error, FoundFile, Readable, Recorder, RecorderError, Resumes, ResumesAfter, WavSpecEx, ends_whole, found_frame, greatest_u32, kept_as, padded, recorder_of, resumed_recorder}
use Rattle.hound.specs.declared.Error.TheVariants.{Unsupported}
use Rattle.hound.specs.declared.RepairState.TheVariants.{HasChunksAfterData as Followed}
use Rattle.hound.specs.declared.RecorderError.TheVariants.{NotWritable, UnfinishedFrame, TooLong, Truncated, NeedsMend, NeedsOverwrite, NeedsCheckpoint, SyncFailed}
use Rattle.hound.proofs.Recorders.{readable_frames}
use Rattle.std.specs.Borrow.{Bor}
use Rattle.hound_callers.specs.Recorder.{IsErrorOf, IsFull, IsNotResumed, TakesNoMore, total_length}

-- the file lacks data, ends with them, or continues
abbrev pub IsOneOf : FoundFile → Result Recorder RecorderError → Type 0
IsOneOf f result = ((f.length < f.data_start + f.data_length) × (result ≡ Err Truncated))
    ⊎ ((f.data_start + f.data_length ≤ f.length) × ContinuesAfter f f.data_length result)
    ⊎ ((ends_whole f ≡ false) × (result ≡ Err NeedsOverwrite))

pub one_of : (f : FoundFile) (result : Result Recorder RecorderError) → f.state ≡ Followed
    → Resumes f false false result → IsOneOf f result
one_of f result state resumes = by (nat_lt f.length (f.data_start + f.data_length)) (ends_whole f) refl refl resumes
  where
    by : (a b : Bool) → nat_lt f.length (f.data_start + f.data_length) ≡ a → ends_whole f ≡ b
        → ResumesAfter f (if a then Err Truncated else if b then Ok f.data_length else kept_as f.state f false false)
        result
        → IsOneOf f result
    by true b lacks ends is = inl (grind (arith, common_steps), is)
    by false true lacks ends is = inr (inl (grind (arith, common_steps), is))
    by false false lacks ends is = inr (inr (ends, rw state at is))

-- whole frames, counted in bytes
in_frames : (samples channels width : ℕ) → samples % channels ≡ 0
    → samples * width ≡ samples / channels * (channels * width)
in_frames samples channels width whole =
    let all = div-add-mod' samples channels in
    as_frames samples (samples / channels) channels width (omega (arith, all, whole))
  where
    as_frames : (k f c w : ℕ) → k ≡ f * c → k * w ≡ f * (c * w)
    as_frames k f c w is = rw is (omega arith)

product_is_some : (c w : ℕ) → 1 ≤ c → 1 ≤ w → 0 < c * w
product_is_some c w some wide = let more = le-mul_of_pos_right c wide in omega (arith, more, some)

-- a file of whole frames that continues has more than a pad byte after them
more_follows : (f : FoundFile) → 0 < found_frame f → f.data_length % found_frame f ≡ 0
    → f.frames * found_frame f ≤ f.data_length → ends_whole f ≡ false
    → f.data_start + padded f.data_length < f.length
more_follows f some whole few ends = grind (arith, common_steps)

-- why a recorder doesn't begin with a file
pub not_resumed : (f : FoundFile) (contents : List ℕ) (samples : ℕ) (error : RecorderError) (e : Error)
    → Readable contents f.spec_ex samples f.data_start → f.data_length ≡ samples * f.spec_ex.bytes_per_sample
    → f.length ≡ length contents → f.frames ≡ samples / f.spec_ex.spec.channels → f.state ≡ Followed
    → 1 ≤ f.spec_ex.spec.channels → 1 ≤ f.spec_ex.bytes_per_sample → Resumes f false false (Err error)
    → IsErrorOf error e → IsNotResumed contents e
not_resumed f contents samples error e readable counted all frames state some wide resumes named =
    by error (one_of f (Err error) state resumes) named
  where
    lacks : f.length < f.data_start + f.data_length
        → length contents < f.data_start + samples * f.spec_ex.bytes_per_sample
    lacks less = rw (all, counted) at less

    because : (error : RecorderError) → AppendsRecorder f.spec_ex f.data_start f.data_length (Err error)
        → e ≡ Unsupported → IsNotResumed contents e
    because error is named = inr (
      f.spec_ex,
      samples,
      f.data_start,
      readable,
      inl (error, subst (λ n. AppendsRecorder f.spec_ex f.data_start n (Err error)) counted is, named),
    )

    by : (error : RecorderError) → IsOneOf f (Err error) → IsErrorOf error e → IsNotResumed contents e
    by error (inl (less, is)) named =
        let same : error ≡ Truncated = cc in
        inr (f.spec_ex, samples, f.data_start, readable, inr (inl (lacks less, subst (λ x. IsErrorOf x e) same named)))
    by error (inr (inr (ends, is))) named =
        let same : error ≡ NeedsOverwrite = cc in
        let product : f.data_length ≡ f.frames * found_frame f =
        counted ∙ in_frames samples f.spec_ex.spec.channels f.spec_ex.bytes_per_sample
        (readable_frames f.spec_ex samples f.data_start contents readable) ∙ ap (λ n. n * found_frame f) (sym frames) in
        let follows = more_follows f (product_is_some f.spec_ex.spec.channels f.spec_ex.bytes_per_sample some wide)
        (rw product (mul-mod_left f.frames (found_frame f))) (omega (arith, product)) ends in
        inr (
          f.spec_ex,
          samples,
          f.data_start,
          readable,
          inr (inr (rw (counted, all) at follows, subst (λ x. IsErrorOf x e) same named)),
        )
    by Truncated (inr (inl (enough, less))) named = absurd (omega (arith, enough, less))
    by NeedsOverwrite (inr (inl (enough, (never, _)))) named = cc
    by NotWritable (inr (inl (enough, is))) named = because NotWritable is named
    by UnfinishedFrame (inr (inl (enough, is))) named = because UnfinishedFrame is named
    by TooLong (inr (inl (enough, is))) named = because TooLong is named
    by NeedsMend (inr (inl (enough, is))) named = because NeedsMend is named
    by NeedsCheckpoint (inr (inl (enough, is))) named = because NeedsCheckpoint is named
    by SyncFailed (inr (inl (enough, is))) named = because SyncFailed is named

-- a recorder that begins with a file keeps all of its data
pub kept_as_found : (f : FoundFile) (r : Recorder) → f.state ≡ Followed → Resumes f false false (Ok r)
    → r ≡ resumed_recorder f f.data_length
kept_as_found f r state resumes = by (one_of f (Ok r) state resumes)
  where
    by : IsOneOf f (Ok r) → r ≡ resumed_recorder f f.data_length
    by (inl (less, is)) = cc
    by (inr (inl (enough, (appends, held, is)))) = is
    by (inr (inr (ends, is))) = cc

pub kept_all : (f : FoundFile) (r : Recorder) → f.state ≡ Followed → Resumes f false false (Ok r)
    → r.data_length ≡ f.data_length
kept_all f r state resumes = ap (λ (x : Recorder). x.data_length) (kept_as_found f r state resumes)

-- so it takes as much as one of these data
pub resumed_full : (f : FoundFile) (r : Recorder) (len : ℕ) (blocks : List (Bor (List ℕ))) (n : ℕ)
    → r ≡ resumed_recorder f f.data_length → f.data_length ≡ len → IsFull r blocks n
    → IsFull (recorder_of f.spec_ex f.data_start len) blocks n
resumed_full f r len blocks n is long full =
    by (drop n blocks) (subst (λ (r : Recorder). IsFull r blocks n) is full)
  where
    by : (left : List (Bor (List ℕ)))
        → TakesNoMore (record (resumed_recorder f f.data_length) {
          data_length = f.data_length + total_length (take n blocks);
        }) left
        → TakesNoMore (record (recorder_of f.spec_ex f.data_start len) {
          data_length = len + total_length (take n blocks);
        }) left
    by [] given = given
    by (block ∷ left) given = rw (sym long) given

-- no recorder begins with samples of more bytes than 32 bits count
pub too_long : (s : WavSpecEx) (contents : List ℕ) (samples start n : ℕ) → Readable contents s samples start
    → greatest_u32 < samples * s.bytes_per_sample → IsNotResumed contents Unsupported
too_long s contents samples start n readable long =
    inr (s, samples, start, readable, inl (TooLong, omega (arith, long), refl))
