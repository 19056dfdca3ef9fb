-- Effects and blocks as a recorder directs them.
use Rattle.std.proofs.lemmas.Bool.{false≢true}
use Rattle.std.proofs.lemmas.Grind.{flat_map-append, common_steps}
use Rattle.std.proofs.lemmas.List.{append-nil, map-append}
use Rattle.std.proofs.Common.{◌≡◌, ◌<◌, ◌≤◌, ◌+◌, ◌-◌, ◌*◌, ◌/◌, ◌%◌, ℕ, Bool, true, false, List, [], ◌∷◌, ◌++◌, drop, drop-cons, get_or, length, length-take, take, inl, inr, OnErr, OnOk, Result, Ok, Err, IsErr, is_ok, refl, sym, ◌∙◌, ap, subst, append_assoc, arith}
use Rattle.std.proofs.Math.Nat.{div-add-mod', mul-div_cancel, mul-mod_left}
use Rattle.std.specs.Borrow.{Bor}
use Rattle.std.specs.List.{AllByRecursion, flat_map}
use Rattle.hound.proofs.Knowing.{accepted as accepted_of_known, lasts, length-concat, reads_all}
use Rattle.hound.specs.{AreBytes, AsksForBlock, AsksForCheckpoint, Asked, Begun, Directed, KeptWithin, Known, Log, MediumState, GivesUp, RejectsBlock, TakesBlock, given_up as given_back, once_rejected, Recorder, RecorderError, WavSpecEx, accepted_as_seen, accepted_by_all, field, found_in, if_marked, Repeats, length_with, log_kind, marked, overlay, publish, seen, start_of}
use Rattle.hound.specs.declared.Phase.{Phase}
use Rattle.hound.specs.declared.Phase.TheVariants.{Idle, Saving, Requested, Writing, Cleaning}
use Rattle.hound.specs.declared.Report.TheVariants.{Pending}
use Rattle.hound.specs.declared.RecorderError.TheVariants.{NotWritable, UnfinishedFrame, TooLong, Truncated, NeedsMend, NeedsOverwrite, NeedsCheckpoint, SyncFailed}
use Rattle.hound_callers.specs.Recorder.{IsDirected, IsFree, IsReady, IsBlockRejected, ReadsBlocks, Saves, Stops, StopsSaving, StopsIn, samples_of}
use Rattle.hound_callers.specs.Recording.{published_calls}
use Rattle.hound_callers.proofs.Publishing.{accepted, last_call}

-- a file in this state
abbrev pub log_of : (m : MediumState) → m.contents ≡ overlay m.start m.past → AreBytes m.contents → Log
log_of m replays small = record { state = m; replays = replays; small = small }

pub not_ok : {T E : Type 0} (r : Result T E) → IsErr r → is_ok r ≡ false
not_ok (Ok x) err = absurd (false≢true err)
not_ok (Err e) err = refl

-- the samples of a block, if they are whole
pub whole_samples : (n width : ℕ) → n % width ≡ 0 → n ≡ n / width * width
whole_samples n width whole = omega (arith, div-add-mod' n width, whole)

-- a request without a report gives up what was under way
pub begins_block : (old new : Recorder) (samples : ℕ) (result : Result (Unit {0}) RecorderError)
    → AsksForBlock Pending samples old new result
    → (end : Recorder) × GivesUp old end × TakesBlock samples old.phase end new result
begins_block old new samples result (mid, end, outcome, (same, ok), gives, takes) = (
  end,
  subst (λ m. GivesUp m end) same gives,
  subst (λ (m : Recorder). TakesBlock samples m.phase end new result) same takes,
)

pub begins_checkpoint : (old new : Recorder) → AsksForCheckpoint Pending old new
    → (end : Recorder) × GivesUp old end × (new ≡ record end { phase = Saving })
begins_checkpoint old new (mid, end, outcome, (same, ok), gives, is) =
    (end, subst (λ m. GivesUp m end) same gives, is)

-- where that was no block, nothing changes but what is next
none_given : (phase : Phase) (r : Recorder) → IsFree phase → given_back phase r ≡ record r { phase = Idle }
none_given Idle r free = refl
none_given Saving r free = refl
none_given (Requested n) r free = absurd free
none_given (Writing n) r free = absurd free
none_given Cleaning r free = absurd free

pub nothing_given : (old end : Recorder) → IsFree old.phase → GivesUp old end → end ≡ record old { phase = Idle }
nothing_given old end free gives = gives ∙ none_given old.phase old free

-- and where a block was rejected, nothing
rejects : (r : Recorder) (phase : Phase) → IsFree phase → r.phase ≡ phase
    → once_rejected phase (record r { phase = Idle }) ≡ r
rejects r Idle free is = λ i. record r { phase = sym is i }
rejects r Saving free is = λ i. record r { phase = sym is i }
rejects r (Requested n) free is = absurd free
rejects r (Writing n) free is = absurd free
rejects r Cleaning free is = absurd free

-- why a recorder that met no failure rejects a block
pub not_taken : (r new : Recorder) (block : Bor (List ℕ)) (error : RecorderError)
    → length block.now % r.bytes_per_sample ≡ 0 → IsReady r
    → AsksForBlock Pending (length block.now / r.bytes_per_sample) r new (Err error)
    → (new ≡ r) × IsBlockRejected r block
not_taken r new block error whole ready asks =
    let (end, gives, (why, is)) = begins_block r new _ (Err error) asks in
    let given = nothing_given r end ready.2 gives in (
      is ∙ ap (once_rejected r.phase) given ∙ rejects r r.phase ready.2 refl,
      by error (subst (λ x. RejectsBlock (length block.now / r.bytes_per_sample) x error) given why),
    )
  where
    by : (error : RecorderError)
        → RejectsBlock (length block.now / r.bytes_per_sample) (record r { phase = Idle }) error
        → IsBlockRejected r block
    by SyncFailed dead = let sound = ready.1 in cc (sound, dead)
    by UnfinishedFrame (alive, inl none) = absurd (let some = ready.5 in omega (arith, some, none))
    by UnfinishedFrame (alive, inr torn) = inr (inl torn)
    by TooLong (alive, long) =
        let size : length_with r (length block.now / r.bytes_per_sample) ≡ r.data_length + length block.now =
        omega (arith, whole_samples (length block.now) r.bytes_per_sample whole) in
        inr (inr (rw size at long))
    by NotWritable (alive, inl low) = absurd (let start = ready.4 in omega (arith, start, low))
    by NotWritable (alive, inr thin) = absurd (let wide = ready.6 in omega (arith, wide, thin))
    by NeedsCheckpoint (alive, never) = absurd never
    by Truncated (alive, never) = absurd never
    by NeedsMend (alive, never) = absurd never
    by NeedsOverwrite (alive, never) = absurd never

-- what holds at an Ok, or at an Err
pub on_ok : {T E P : Type 0} (r : Result T E) → (is_ok r ≡ true → P) → OnOk r P
on_ok (Ok x) here = here refl
on_ok (Err e) here = tt

pub on_err : {T E P : Type 0} (r : Result T E) → (is_ok r ≡ false → P) → OnErr r P
on_err (Ok x) here = tt
on_err (Err e) here = here refl

-- a block of which nothing was written
pub stopped_before : (s : WavSpecEx) (file : Begun) (known : List Known) (r : Recorder) (block : Bor (List ℕ))
    (m : MediumState) → IsBlockRejected r block → r.number ≡ 0 → IsDirected s file known r m
    → Stops s file known block r m
stopped_before s file known r block m rejected none directed =
    ([], inl (rejected, refl), none, rw append-nil directed)

pub at_err : {T E P : Type 0} (r : Result T E) → is_ok r ≡ false → OnErr r P → P
at_err (Ok x) err here = absurd (false≢true (sym err))
at_err (Err e) err here = here

-- a block wasn't saved, or none is left
pub none_saved : (s : WavSpecEx) (r : Recorder) (blocks : List (Bor (List ℕ))) (i : ℕ) (d : Bor (List ℕ))
    (more : List (Asked × Bool)) → i < length blocks → StopsIn s r (get_or blocks i d) more
    → StopsSaving s r (drop i blocks) more
none_saved s r blocks i d more inside stops = rw (drop-cons blocks i d inside) stops

pub none_left : (s : WavSpecEx) (r : Recorder) (blocks : List (Bor (List ℕ))) (n : ℕ) → length blocks ≤ n
    → StopsSaving s r (drop n blocks) []
none_left s r blocks n all = let none : drop n blocks ≡ [] = grind (arith, common_steps) in rw none refl

-- the calls that stopped accepted nothing, unless a checkpoint failed
stopped_none : (s : WavSpecEx) (r : Recorder) (blocks : List (Bor (List ℕ))) (more : List (Asked × Bool))
    → StopsSaving s r blocks more → AllByRecursion (λ (one : Known). one.asked ≡ publish → ⊥) (seen more)
    → accepted_as_seen more ≡ []
stopped_none s r [] more is none = ap accepted_as_seen is
stopped_none s r (block ∷ blocks) more (inl (rejected, is)) none = ap accepted_as_seen is
stopped_none s r (block ∷ blocks) more (inr (inl is)) none = ap accepted_as_seen is
stopped_none s r (block ∷ blocks) more (inr (inr is)) none = absurd ((rw is at none).1.0 refl)

-- the last checkpoint has published the blocks, and the calls after it changed nothing
reads_saved : (s : WavSpecEx) (file : Begun) (blocks : List (Bor (List ℕ))) (r : Recorder)
    (left : List (Bor (List ℕ))) (more : List (Asked × Bool)) (log : Log) (m : MediumState)
    → KeptWithin log_kind s file (seen (published_calls (samples_of s) blocks ++ more)) log m
    → log.state ≡ m → StopsSaving s r left more
    → AllByRecursion (λ (one : Known). one.asked ≡ publish → ⊥) (seen more) → 0 < length blocks
    → ReadsBlocks s file blocks m.contents
reads_saved s file blocks r left more log m kept here stops none some frames =
    let f = samples_of s in
    let samples = flat_map (λ block. if_marked true (f block)) blocks in
    let list = found_in file ++ samples in
    let calls = kept.left.recorded.calls in
    let end = kept.promised.at_end in
    let (written, same, so_far) = last_call f blocks some in
    let known : seen (published_calls f blocks ++ more) ≡ seen written ++ (marked publish true ∷ seen more) =
    ap (λ l. seen (l ++ more)) same ∙ simp (map-append, append_assoc) in
    let parts : accepted_as_seen (published_calls f blocks ++ more)
    ≡ accepted_as_seen (published_calls f blocks) ++ accepted_as_seen more = simp flat_map-append in
    let sum : accepted_by_all calls ≡ samples =
    accepted_of_known (published_calls f blocks ++ more) calls kept.left.recorded.are_known
    ∙ parts ∙ (λ i. accepted f blocks i ++ stopped_none s r left more stops none i) ∙ append-nil samples in
    let says = lasts s file written (seen more) calls log.state end (rw known at kept.left.recorded.are_known) none in
    let wide = length-concat s.bytes_per_sample list (rw sum at end.wide) in
    let size : field (start_of s file - 4) m.contents ≡ length list * s.bytes_per_sample =
    rw (here, so_far, accepted f blocks, wide) at says in
    let count : length list * s.bytes_per_sample / s.bytes_per_sample ≡ length list =
    mul-div_cancel (length list) end.sound.1 in
    reads_all s (start_of s file) (length list * s.bytes_per_sample) list m.contents
    (mul-mod_left (length list) s.bytes_per_sample) (rw count frames) (sym count) size (rw (here, sum) at end.counts)

-- blocks that a recorder directed were saved, by what is kept of all that one directed
pub saves : (s : WavSpecEx) (file : Begun) (blocks : List (Bor (List ℕ))) (n : ℕ) (r : Recorder) (m : MediumState)
    → n ≤ length blocks
    → ((known : List Known) (r : Recorder) (m : MediumState) → Directed s file known r m → r.number ≡ 0
    → (log : Log) × (log.state ≡ m) × KeptWithin log_kind s file known log m)
    → (more : List (Asked × Bool)) × StopsSaving s r (drop n blocks) more × (r.number ≡ 0)
    × IsDirected s file (seen (published_calls (samples_of s) (take n blocks) ++ more)) r m
    → Saves s file blocks n m
saves s file blocks n r m within keeps (more, stops, none, (once, directed, repeats)) =
    let (log, here, kept) = keeps _ r once directed none in
    let calls = seen (published_calls (samples_of s) (take n blocks) ++ more) in (
      more,
      r,
      log,
      subst (λ once. Repeats once m) (sym here) repeats,
      stops,
      subst (λ once. Directed s file calls r once) (sym here) directed,
      subst (λ once. KeptWithin log_kind s file calls log once) (sym here) kept,
      λ publishes some. subst (ReadsBlocks s file (take n blocks)) (sym repeats.contents)
          (reads_saved s file (take n blocks) r (drop n blocks) more log once kept here stops publishes
          (omega (arith, some, within, length-take n blocks))),
    )
