-- What a caller does as its recorder says are calls of a writer.
use Rattle.std.proofs.lemmas.Grind.{common_steps}
use Rattle.std.proofs.lemmas.Bool.{eq-eqb, false≢true}
use Rattle.std.proofs.Common.{◌≡◌, ◌⊎◌, ℕ, ◌+◌, ◌-◌, ◌*◌, ◌/◌, ◌%◌, ◌<◌, Bool, true, false, List, [], ◌∷◌, ◌++◌, length, inl, inr, Some, None, Option, Result, Ok, Err, is_ok, refl, sym, ◌∙◌, ap, subst, arith, append-nil}
use Rattle.std.proofs.Math.Nat.{div-add-mod', mul-mod_left}
use Rattle.std.specs.Prelude.{if◌then◌else◌}
use Rattle.std.specs.declared.io.Error.{Error as IoFault}
use Rattle.hound_medium.specs.{MediumState}
use Rattle.hound_spec.specs.declared.spec.WavSpecEx.{WavSpecEx}
use Rattle.hound_writer.specs.Beginning.{at_beginning}
use Rattle.hound_writer.specs.Calls.{Begun, Known, marked, new_file, publish}
use Rattle.hound_writer.specs.Effects.{Log, Performs, nth}
use Rattle.hound_writer.specs.Recorder.{CannotSave, EffectEnds, EndsEffect, GivesUp, GoesOn, HasEnded, HasNext, HasNoNext, IsSaving, MaySave, TakesBlock, after_block, cuts_next, doubted, end_of, end_place, given_up, BeginsRecorder, HasData, IsAlive, IsClear, effects_of, length_with, once_rejected, recorder_of, saved, stopped}
use Rattle.hound_writer.specs.Parts.{PutsAt}
use Rattle.hound_writer.specs.Recording.{Directed, HasPlace, HasRoomTo, InStep, Opened, Resumed, block_known, cut_known, resumed_file}
use Rattle.hound_writer.specs.Resuming.{ContinuesAfter, Resumes, ResumesAfter, kept_length, rest_follows, resumed_recorder}
use Rattle.hound_writer.specs.declared.effects.Action.TheVariants.{Perform, WriteBlock}
use Rattle.hound_writer.specs.declared.effects.Effect.{Effect}
use Rattle.hound_writer.specs.declared.recorder.Health.TheVariants.{Suspect}
use Rattle.hound_writer.specs.declared.recorder.Phase.{Phase}
use Rattle.hound_writer.specs.declared.recorder.Phase.TheVariants.{Idle, Saving, Requested, Writing, Cleaning}
use Rattle.hound_writer.specs.declared.recorder.Recorder.{Recorder}
use Rattle.hound_writer.specs.declared.recorder.RecorderError.{RecorderError}
use Rattle.hound_writer.specs.declared.resuming.FoundFile.{FoundFile}
use Rattle.hound_writer.proofs.Directing.{at_none, readable_frames, step_block, step_cut, step_data, step_effect, step_new, step_resumed, step_save}

-- what is under way doesn't count
pub step_same : (s : WavSpecEx) (file : Begun) (known : List Known) (r : Recorder) (m : MediumState)
    (phase : Phase) (has_rest : Bool) → InStep s file known r m
    → InStep s file known (record r { phase = phase; has_rest = has_rest }) m
step_same s file known r m phase has_rest d = record {
  writer = d.writer;
  recorded = d.recorded;
  idle = d.idle;
  is = d.is;
  order = d.order;
  log = d.log;
  state = d.state;
  performed = d.performed;
}

-- between two calls a checkpoint may be needed also where nothing has failed
step_needs : (s : WavSpecEx) (file : Begun) (known : List Known) (r : Recorder) (m : MediumState)
    → InStep s file known r m → r.number ≡ 0 → InStep s file known (record r { health = Suspect }) m
step_needs s file known r m d none =
    let same = at_none r d.writer.medium d.log none d.performed in
    record {
      writer = d.writer;
      recorded = d.recorded;
      idle = d.idle;
      is = d.is;
      order = λ synced. let (high, order, low) = d.order synced in (high, order, λ sound. cc sound);
      log = d.log;
      state = d.state;
      performed = rw none (refl, same);
    }

sum_of : (n f g c w k : ℕ) → n ≡ f * c * w → k ≡ n + g * c * w → k ≡ (f + g) * c * w
sum_of n f g c w k is more = rw (more, is) (omega arith)

-- whole frames, counted in samples
frames_of : (c k : ℕ) → k % c ≡ 0 → (frames : ℕ) × (k ≡ frames * c)
frames_of c k whole = (k / c, let all = div-add-mod' k c in omega (arith, all, whole))

-- a recorder that has nothing to do, of a file in step with it
pub idle : (s : WavSpecEx) (file : Begun) (frames : ℕ) (r : Recorder) (m : MediumState) → InStep s file [] r m
    → r.channels ≡ s.spec.channels → r.data_length ≡ frames * r.channels * r.bytes_per_sample
    → r.phase ≡ Idle → Directed s file [] r m
idle s file frames r m d channels whole phase = grind (arith, common_steps)

pub directing_new : (s : WavSpecEx) (old : MediumState) (log : Log) (r : Recorder) → Opened s old log.state
    → BeginsRecorder s (Ok r) → Directed s (new_file (at_beginning old)) [] r log.state
directing_new s old log r opened (writable, is) =
    let d = step_same s (new_file (at_beginning old)) [] _ log.state Saving false
    (step_new s old log opened writable) in
    subst (λ r. Directed s (new_file (at_beginning old)) [] r log.state) (sym is) (record {
      in_step = d;
      channels = refl;
      whole = (0, omega arith);
      block = tt;
    })

-- a recorder that keeps what the header counts
kept_counted : (f : FoundFile) (b : Bool) (m : MediumState) (file : Begun) (frames : ℕ)
    → InStep f.spec_ex file [] (recorder_of f.spec_ex f.data_start f.data_length) m
    → f.data_length ≡ frames * f.spec_ex.spec.channels * f.spec_ex.bytes_per_sample
    → rest_follows f f.data_length ≡ b
    → Directed f.spec_ex file [] (resumed_recorder f f.data_length) m
kept_counted f true m file frames d whole is =
    rw is (idle f.spec_ex file frames _ m (step_same f.spec_ex file [] _ m Idle true
    (step_needs f.spec_ex file [] _ m d refl)) refl whole refl)
kept_counted f false m file frames d whole is =
    rw (is, eq-eqb f.data_length f.data_length refl) (idle f.spec_ex file frames _ m d refl whole refl)

pub directing_resumed : (f : FoundFile) (samples : ℕ) (mends overwrites : Bool) (old : MediumState) (log : Log)
    (r : Recorder) → Resumed f samples old log.state → Resumes f mends overwrites (Ok r)
    → r.data_length ≡ f.data_length
    → Directed f.spec_ex (resumed_file f.spec_ex samples f.data_start old) [] r log.state
directing_resumed f samples mends overwrites old log r is resumes same =
    by (kept_length f mends overwrites) resumes
  where
    file : Begun
    file = resumed_file f.spec_ex samples f.data_start old

    at : (n : ℕ) → ContinuesAfter f n (Ok r) → n ≡ f.data_length → Directed f.spec_ex file [] r log.state
    at n continues counts =
        let (appends, held, this) = subst (λ n. ContinuesAfter f n (Ok r)) counts continues in
        let (frames, whole) = frames_of f.spec_ex.spec.channels samples
        (readable_frames f.spec_ex samples f.data_start old.contents is.readable) in
        let long : f.data_length ≡ frames * f.spec_ex.spec.channels * f.spec_ex.bytes_per_sample =
        is.counted ∙ ap (λ k. k * f.spec_ex.bytes_per_sample) whole in
        rw this (kept_counted f (rest_follows f f.data_length) log.state file frames
        (step_resumed f samples old log is held appends) long refl)

    by : (kept : Result ℕ RecorderError) → ResumesAfter f kept (Ok r) → Directed f.spec_ex file [] r log.state
    by (Ok n) (appends, held, this) =
        at n (appends, held, this) (sym (ap (λ (x : Recorder). x.data_length) this) ∙ same)
    by (Err error) never = cc

-- only one effect is next, and none is where all are done
pub one_next : (r : Recorder) (a b : Effect) → HasNext a r → HasNext b r → a ≡ b
one_next r a b (_, one) (_, other) = let both : Some a ≡ Some b = sym one ∙ other in cc both

pub not_done : (r : Recorder) (effect : Effect) → HasNext effect r → HasNoNext r → ⊥
not_done r effect (_, some) (_, none) = let both : Some effect ≡ None = sym some ∙ none in cc both

-- the recorder's data
abbrev IsAs : Recorder → Recorder → Type 0
IsAs a b = (a.data_length ≡ b.data_length) × (a.bytes_per_sample ≡ b.bytes_per_sample) × (a.channels ≡ b.channels)

-- the recorder has the same data, and does something else
moved : (s : WavSpecEx) (file : Begun) (known more : List Known) (old r : Recorder) (m next : MediumState)
    (phase : Phase) (has_rest : Bool) → Directed s file known old m → InStep s file more r next → IsAs r old
    → HasPlace phase r → Directed s file more (record r { phase = phase; has_rest = has_rest }) next
moved s file known more old r m next phase has_rest d step (len, width, channels) place = record {
  in_step = step_same s file more r next phase has_rest step;
  channels = channels ∙ d.channels;
  whole = let (frames, is) = d.whole in (frames, rw (len, width, channels) is);
  block = place_as phase r _ refl place;
}
  where
    -- a place doesn't hang on what is under way
    place_as : (phase : Phase) (a b : Recorder) → b ≡ record a { phase = b.phase; has_rest = b.has_rest }
        → HasPlace phase a
        → HasPlace phase b
    place_as Idle a b same place = tt
    place_as Saving a b same place = tt
    place_as Cleaning a b same place = tt
    place_as (Requested n) a b same place = rw same place
    place_as (Writing n) a b same place = rw same place

-- another block is requested
asks : (s : WavSpecEx) (file : Begun) (known : List Known) (r : Recorder) (m : MediumState) (samples : ℕ)
    → Directed s file known r m → samples % r.channels ≡ 0 → HasData r (length_with r samples)
    → Directed s file known (record r { phase = Requested (length_with r samples) }) m
asks s file known r m samples d whole has = record {
  in_step = step_same s file known r m (Requested (length_with r samples)) r.has_rest d.in_step;
  channels = d.channels;
  whole = d.whole;
  block = grind (arith, common_steps, frames_of);
}

-- what was under way was given up
gives_up : (s : WavSpecEx) (file : Begun) (known : List Known) (old : Recorder) (m : MediumState) (phase : Phase)
    → Directed s file known old m → old.phase ≡ phase
    → Directed s file known (record (given_up phase old) { phase = Saving }) m
gives_up s file known old m Idle d is = moved s file known known old old m m Saving old.has_rest d d.in_step
    (refl, refl, refl) tt
gives_up s file known old m Saving d is = moved s file known known old old m m Saving old.has_rest d d.in_step
    (refl, refl, refl) tt
gives_up s file known old m Cleaning d is = moved s file known known old old m m Saving true d d.in_step
    (refl, refl, refl) tt
gives_up s file known old m (Requested n) d is =
    moved s file known known old old m m Saving old.has_rest d d.in_step (refl, refl, refl) tt
gives_up s file known old m (Writing n) d is =
    let (room, (sound, none)) = subst (λ phase. HasPlace phase old) is d.block in
    rw sound (moved s file known known old (record old { health = Suspect }) m m Saving true d
    (step_needs s file known old m d.in_step none) (refl, refl, refl) tt)

-- nothing is under way, or a checkpoint is, once a block was rejected
rejected : (s : WavSpecEx) (file : Begun) (known : List Known) (end : Recorder) (m : MediumState) (phase : Phase)
    → Directed s file known (record end { phase = Saving }) m → end.phase ≡ Idle
    → Directed s file known (once_rejected phase end) m
rejected s file known end m phase one idle = by phase
  where
    still : Directed s file known end m
    still = subst (λ (phase : Phase). Directed s file known (record end { phase = phase }) m) (sym idle) (record {
      in_step = step_same s file known (record end { phase = Saving }) m Idle end.has_rest one.in_step;
      channels = one.channels;
      whole = one.whole;
      block = tt;
    })

    by : (phase : Phase) → Directed s file known (once_rejected phase end) m
    by Saving = one
    by Idle = still
    by Cleaning = still
    by (Requested n) = still
    by (Writing n) = still

is_idle : (phase : Phase) (r : Recorder) → (given_up phase r).phase ≡ Idle
is_idle phase r = grind (arith, common_steps)

pub directing_asked : (s : WavSpecEx) (file : Begun) (known : List Known) (old end new : Recorder)
    (m : MediumState) (samples : ℕ) (result : Result (Unit {0}) RecorderError) → Directed s file known old m
    → GivesUp old end → Directed s file known (record end { phase = Saving }) m
    × (TakesBlock samples old.phase end new result → Directed s file known new m)
directing_asked s file known old end new m samples result d gives = (one, by result)
  where
    one : Directed s file known (record end { phase = Saving }) m
    one = rw gives (gives_up s file known old m old.phase d refl)

    by : (result : Result (Unit {0}) RecorderError) → TakesBlock samples old.phase end new result
        → Directed s file known new m
    by (Ok x) (low, some, whole, room, is) =
        rw is (asks s file known (record end { phase = Saving }) m samples one whole room)
    by (Err error) (why, is) =
        rw is (rejected s file known end m old.phase one (ap (λ (r : Recorder). r.phase) gives ∙ is_idle old.phase old))

pub directing_saved : (s : WavSpecEx) (file : Begun) (known : List Known) (old new : Recorder)
    (m : MediumState) → Directed s file known old m → old.phase ≡ Saving → GoesOn old new (Ok None)
    → Directed s file (known ++ marked publish true ∷ []) new m
directing_saved s file known old new m d saving (inl (none, _)) = cc (saving, none)
directing_saved s file known old new m d saving (inr (_, rest, none, is)) =
    rw is (moved s file known (known ++ marked publish true ∷ []) old (saved old) m m Idle old.has_rest d
    (step_save s file known old m d.in_step none) (refl, refl, refl) tt)

-- some effect was before the end
some_done : (r : Recorder) → HasNoNext r → 0 < r.number
some_done r given = grind (arith, common_steps)

-- a block that has room begins below 2^64
low_end : (n : ℕ) (r : Recorder) → HasRoomTo n r → end_place r ≡ end_of r
low_end n r (frames, more, (far, wide, fits)) = grind (arith, common_steps)

pub directing_handed : (s : WavSpecEx) (file : Begun) (known : List Known) (old new : Recorder)
    (m : MediumState) (place len : ℕ) → Directed s file known old m
    → GoesOn old new (Ok (Some (WriteBlock place len))) → (place ≡ end_of new)
    × (Directed s file known new m ⊎ ((0 < old.number) × Directed s file (known ++ marked publish true ∷ []) new m))
directing_handed s file known old new m place len d (n, rest, inl (writing, same), there, _) =
    let (room, clear) = subst (λ phase. HasPlace phase old) writing d.block in
    rw same (there ∙ low_end n old room, inl d)
directing_handed s file known old new m place len d (n, rest, inr (waiting, inl clear, is), there, _) =
    let room = subst (λ phase. HasPlace phase old) waiting d.block in
    let now : new ≡ record old { phase = Writing n } =
    is ∙ (λ i. record old { number = sym clear.1 i; health = sym clear.0 i; phase = Writing n }) in
    rw now (
      there ∙ low_end n old room,
      inl (moved s file known known old old m m (Writing n) old.has_rest d d.in_step (refl, refl, refl) (room, clear)),
    )
directing_handed s file known old new m place len d (n, rest, inr (waiting, inr none, is), there, _) =
    let room = subst (λ phase. HasPlace phase old) waiting d.block in
    rw is (
      there ∙ low_end n old room,
      inr (
        some_done old none,
        moved s file known (known ++ marked publish true ∷ []) old (saved old) m m (Writing n) old.has_rest d
            (step_save s file known old m d.in_step none) (refl, refl, refl) (room, (refl, refl)),
      ),
    )

pub directing_cut : (s : WavSpecEx) (file : Begun) (known : List Known) (old new : Recorder) (m : MediumState)
    (ok : Bool) (outcome : Result (Unit {0}) RecorderError) → Directed s file known old m
    → cuts_next old.phase old.has_rest ≡ true → HasEnded ok old new outcome → Directed s file known new m
directing_cut s file known old new m ok outcome d cuts (inl (none, is, _)) = rw is d
directing_cut s file known old new m ok outcome d cuts (inr (inl (cleaning, is, _))) =
    rw is (moved s file known known old old m m Idle old.has_rest d d.in_step (refl, refl, refl) tt)
directing_cut s file known old new m ok outcome d cuts (inr (inr (inl (_, _, rest, is, _)))) =
    rw is (moved s file known known old old m m old.phase false d d.in_step (refl, refl, refl) d.block)
directing_cut s file known old new m ok outcome d cuts (inr (inr (inr (inl (n, writing, none, _, _))))) =
    absurd (false≢true (subst (λ (x : Phase × Bool). cuts_next x.0 x.1 ≡ true) (λ i. (writing i, none i)) cuts))
directing_cut s file known old new m ok outcome d cuts (inr (inr (inr (inr (saving, none, _))))) =
    absurd (not_cut old.phase saving (subst (λ rest. cuts_next old.phase rest ≡ true) none cuts))
  where
    not_cut : (phase : Phase) → MaySave phase → cuts_next phase false ≡ true → ⊥
    not_cut Saving may is = false≢true is
    not_cut (Requested n) may is = false≢true is
    not_cut Idle never is = never
    not_cut Cleaning never is = never
    not_cut (Writing n) never is = never

pub directing_failed : (s : WavSpecEx) (file : Begun) (known : List Known) (old new : Recorder)
    (m : MediumState) (error : RecorderError) → Directed s file known old m → IsAlive old
    → GoesOn old new (Err error) → ⊥
directing_failed s file known old new m error d low (saving, cannot, is) = step_data s file known old m error d.in_step
    low cannot

-- an effect was performed and its end reported
effect_ended : (s : WavSpecEx) (file : Begun) (known : List Known) (old new : Recorder) (m : MediumState) (end : Log)
    (effect : Effect) (result : Result (Unit {0}) IoFault) (outcome : Result (Unit {0}) RecorderError)
    → Directed s file known old m → MaySave old.phase → HasNext effect old → Performs effect result m end.state
    → EffectEnds (is_ok result) effect old new outcome → Directed s file (known ++ cut_known outcome) new end.state
effect_ended s file known old new m end effect (Ok x) outcome d may next did (is, ok) =
    rw (ok, append-nil known, is) (moved s file known known old (record old { number = old.number + 1 }) m end.state
    old.phase old.has_rest d (step_effect s file known old m end effect d.in_step next did) (refl, refl, refl)
    (waits old.phase may d.block))
  where
    waits : (phase : Phase) → MaySave phase → HasPlace phase old
        → HasPlace phase (record old { number = old.number + 1 })
    waits Saving may place = tt
    waits (Requested n) may place = place
    waits Idle never place = absurd never
    waits Cleaning never place = absurd never
    waits (Writing n) never place = absurd never
effect_ended s file known old new m end effect (Err e) outcome d may next did (is, err) =
    rw (err, is) (moved s file known (known ++ marked publish false ∷ []) old _ m end.state Idle old.has_rest d
    (step_cut s file known old m end effect e d.in_step next did) (refl, refl, refl) tt)

-- a phase that is one of a checkpoint is no other
may_be : (r : Recorder) → IsSaving r → MaySave r.phase
may_be r given = grind (arith, common_steps)

pub directing_performed : (s : WavSpecEx) (file : Begun) (known : List Known) (old mid new : Recorder)
    (m : MediumState) (end : Log) (effect : Effect) (result : Result (Unit {0}) IoFault)
    (outcome : Result (Unit {0}) RecorderError) → Directed s file known old m
    → GoesOn old mid (Ok (Some (Perform effect))) → Performs effect result m end.state
    → HasEnded (is_ok result) mid new outcome → Directed s file (known ++ cut_known outcome) new end.state
directing_performed s file known old mid new m end effect result outcome d (saving, next, same) did ended =
    by (subst (λ x. HasEnded (is_ok result) x new outcome) same ended)
  where
    may : MaySave old.phase
    may = may_be old saving

    ends : EndsEffect (is_ok result) old new outcome → Directed s file (known ++ cut_known outcome) new end.state
    ends (inl (other, also, given)) =
        effect_ended s file known old new m end effect result outcome d may next did
        (subst (λ x. EffectEnds (is_ok result) x old new outcome) (one_next old other effect also next) given)
    ends (inr (inl (none, _, _))) = absurd (not_done old effect next none)
    ends (inr (inr (error, cannot, _, _))) = absurd (step_data s file known old m error d.in_step next.0.0 cannot)

    by : HasEnded (is_ok result) old new outcome → Directed s file (known ++ cut_known outcome) new end.state
    by (inl (none, is, _)) = absurd (rw none at may)
    by (inr (inl (cleaning, is, _))) = absurd (rw cleaning at may)
    by (inr (inr (inl (_, _, rest, is, _)))) = absurd (false≢true (sym saving.0 ∙ rest))
    by (inr (inr (inr (inl (n, writing, _, _, _))))) = absurd (rw writing at may)
    by (inr (inr (inr (inr (_, _, ended))))) = ends ended

-- a block of whole frames is of whole samples
of_samples : (n f c w more : ℕ) → n ≡ more + f * c * w → (n - more) % w ≡ 0
of_samples n f c w more is =
    let rest : n - more ≡ f * c * w = omega (arith, is) in rw rest (mul-mod_left (f * c) w)

pub directing_wrote : (s : WavSpecEx) (file : Begun) (known : List Known) (old new : Recorder) (n : ℕ)
    (m : MediumState) (end : Log) (bytes : List ℕ) (result : Result (Unit {0}) IoFault)
    (outcome : Result (Unit {0}) RecorderError) → Directed s file known old m → old.phase ≡ Writing n
    → old.has_rest ≡ false → length bytes ≡ n - old.data_length
    → PutsAt true (end_of old) bytes result m end.state
    → HasEnded (is_ok result) old new outcome
    → Directed s file (known ++ block_known bytes (is_ok result) s ∷ []) new end.state
directing_wrote s file known old new n m end bytes result outcome d writing rest long puts (inl (none, is, _)) =
    cc (writing, none)
directing_wrote s file known old new n m end bytes result outcome d writing rest long puts (inr (inl (cleaning, is, _)))
    =
    cc (writing, cleaning)
directing_wrote s file known old new n m end bytes result outcome d writing rest long puts
    (inr (inr (inl (_, _, cuts, _, _)))) =
    absurd (false≢true (sym rest ∙ cuts))
directing_wrote s file known old new n m end bytes result outcome d writing rest long puts
    (inr (inr (inr (inr (may, _, _))))) = absurd (rw writing at may)
directing_wrote s file known old new n m end bytes result outcome d writing rest long puts
    (inr (inr (inr (inl (k, this, none, is, _))))) =
    let one : k ≡ n = let both : Writing k ≡ Writing n = sym this ∙ writing in cc both in
    let ((frames, more, has), clear) = subst (λ phase. HasPlace phase old) writing d.block in
    let whole : length bytes % old.bytes_per_sample ≡ 0 =
    rw long (of_samples n frames old.channels old.bytes_per_sample old.data_length more) in
    by result frames more clear (λ r is. step_block s file known old r m end n bytes result d.in_step clear has
    (omega (arith, long, more)) whole puts is) (rw one at is)
  where
    by : (result : Result (Unit {0}) IoFault) (frames : ℕ)
        → n ≡ old.data_length + frames * old.channels * old.bytes_per_sample
        → IsClear old
        → ((r : Recorder) → r ≡
        (if is_ok result then record old { data_length = n } else record old { health = Suspect })
        → InStep s file (known ++ block_known bytes (is_ok result) s ∷ []) r end.state)
        → new ≡ after_block (is_ok result) n old
        → Directed s file (known ++ block_known bytes (is_ok result) s ∷ []) new end.state
    by (Ok x) frames more clear step is =
        let (before, whole) = d.whole in
        rw is (record {
          in_step = step_same s file (known ++ block_known bytes true s ∷ []) _ end.state Idle old.has_rest
              (step _ refl);
          channels = d.channels;
          whole = (
            before + frames,
            sum_of old.data_length before frames old.channels old.bytes_per_sample n whole more,
          );
          block = tt;
        })
    by (Err e) frames more clear step is =
        let doubt : doubted old.health ≡ Suspect = rw clear.0 refl in
        rw (is, doubt) (moved s file known (known ++ block_known bytes false s ∷ []) old
        (record old { health = Suspect }) m end.state
        Cleaning old.has_rest d (step _ refl) (refl, refl, refl) tt)
