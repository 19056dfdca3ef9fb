-- What a checkpoint performs, also of a recording that was cut off.
use Rattle.std.proofs.lemmas.Bool.{false≢true}
use Rattle.std.specs.declared.io.Error.{Error as IoFault}
use Rattle.std.proofs.Common.{List, [], ◌∷◌, ◌++◌, is_ok, take, ◌≡◌, ◌≤◌, ◌+◌, ◌-◌, ◌%◌, ℕ, zero, suc, Bool, true, false, inl, inr, Option, None, Some, Result, Ok, Err, refl, sym, ◌∙◌, ap, subst, arith}
use Rattle.std.specs.Prelude.{if◌then◌else◌, IfErr}
use Rattle.hound.specs.{Begun, Directed, Effect, EffectEnds, FoundFile, IsAlive, is_sound, Goes, IsCutOff, IsSynced, Resumes, ResumesAfter, kept_length, pad_effects, recorder_of, resumed_recorder, riff_size, size_effects, GoesOn, HasData, HasEnded, Log, MediumState, Performed, Performs, Recorder, RecorderError, Repeats, Report, Settles, effects_of, nth}
use Rattle.hound.specs.declared.Action.TheVariants.{Perform}
use Rattle.hound.specs.declared.Effect.TheVariants.{Pad, Size, Sync}
use Rattle.hound.specs.declared.Phase.TheVariants.{Idle, Saving}
use Rattle.hound.specs.declared.Report.TheVariants.{Pending}
use Rattle.hound.proofs.Recorders.{performed_all, performed_more}
use Rattle.hound_callers.specs.Recorder.{IsFound, once_mended}
use Rattle.hound_callers.proofs.Driving.{DoesAction, IsWithin, Laws, block_phase, can, ended_next, settles_as, shape, reported_as}
use Rattle.hound_callers.proofs.Repeating.{IsUnderWayBy}

-- the effects of a checkpoint that were performed, by whether it is over
abbrev pub PerformedAt : Recorder → Log → MediumState → Option Bool → Recorder → Type 0
PerformedAt asked start m None r = (r.phase ≡ Saving) × HasData r r.data_length × (effects_of r ≡ effects_of asked)
    × ((log : Log) × (log.state ≡ m) × Performed (take r.number (effects_of asked)) (Ok tt) start log)
PerformedAt asked start m (Some ok) r = (r.phase ≡ Idle) × (log : Log) × (log.state ≡ m)
    × ((result : Result (Unit {0}) IoFault) × (is_ok result ≡ ok) × Performed (effects_of asked) result start log)

-- its end is an error exactly where the effect failed
ended_as : (b : Bool) (r mid : Recorder) (effect : Effect) (outcome : Result (Unit {0}) RecorderError)
    → r.phase ≡ Saving
    → r.has_rest ≡ false → GoesOn r r (Ok (Some (Perform effect))) → HasEnded b r mid outcome
    → (is_ok outcome ≡ b) × (is_ok outcome ≡ false → mid.phase ≡ Idle)
ended_as b r mid effect outcome saving rest goes ended =
    let (other, ends) = ended_next b r mid effect outcome saving rest goes ended in by b other ends
  where
    by : (b : Bool) (other : Effect) → EffectEnds b other r mid outcome
        → (is_ok outcome ≡ b) × (is_ok outcome ≡ false → mid.phase ≡ Idle)
    by true other (is, ok) = (ap is_ok ok, λ bad. absurd (false≢true (sym bad ∙ ap is_ok ok)))
    by false other (is, err) = (ap is_ok err, λ bad. ap (λ (x : Recorder). x.phase) is)

-- a report of nothing changes nothing
stays_idle : (b : Bool) (r mid : Recorder) (outcome : Result (Unit {0}) RecorderError) → r.phase ≡ Idle
    → HasEnded b r mid outcome
    → mid ≡ r
stays_idle b r mid outcome idle (inl (_, same, _)) = same
stays_idle b r mid outcome idle (inr (inl (cleaning, _, _))) = cc (idle, cleaning)
stays_idle b r mid outcome idle (inr (inr (inl (busy, _, _, _, _)))) = absurd (busy idle)
stays_idle b r mid outcome idle (inr (inr (inr (inl (n, writing, _, _, _))))) = cc (idle, writing)
stays_idle b r mid outcome idle (inr (inr (inr (inr (may, _, _))))) = absurd (rw idle at may)

ok_is : (result : Result (Unit {0}) IoFault) → is_ok result ≡ true → result ≡ Ok tt
ok_is (Ok x) is = refl
ok_is (Err e) is = absurd (false≢true is)

module _ (asked : Recorder) (start : Log) (one : asked.phase ≡ Saving) (block : List ℕ) (report : Report)
    (before : MediumState)
    (end : Log) where
  -- an effect more
  more : (outcome : Result (Unit {0}) RecorderError) (r mid : Recorder) (effect : Effect)
      (result : Result (Unit {0}) IoFault)
      → PerformedAt asked start before None r → GoesOn r r (Ok (Some (Perform effect)))
      → Performs effect result before end.state
      → HasEnded (is_ok result) r mid outcome → PerformedAt asked start end.state (reported_as outcome) mid
  more (Ok x) r mid effect result (task, has, same, (log, here, done)) (saving, next, is) did ended =
      let goes : GoesOn r r (Ok (Some (Perform effect))) = (saving, next, is) in
      let rest = saving.0 in
      let fine : is_ok result ≡ true = sym (ended_as (is_ok result) r mid effect (Ok x) task rest goes ended).0 in
      let is_mid : mid ≡ record r { number = r.number + 1 } = shape (is_ok result) r mid effect (Ok x) task rest goes
      ended in
      let number : suc r.number ≡ mid.number = omega (arith, ap (λ (x : Recorder). x.number) is_mid) in
      let all = performed_more (effects_of asked) r.number effect result start log end
      (sym next.1 ∙ ap (λ l. nth l r.number) same)
      done (subst (λ m. Performs effect result m end.state) (sym here) did) in (
        ap (λ (x : Recorder). x.phase) is_mid ∙ task,
        subst (λ (r : Recorder). HasData r r.data_length) (sym is_mid) has,
        ap effects_of is_mid ∙ same,
        (
          end,
          refl,
          subst (λ (x : ℕ × Result (Unit {0}) IoFault). Performed (take x.0 (effects_of asked)) x.1 start end)
              (λ i. (number i, ok_is result fine i)) all,
        ),
      )
  more (Err error) r mid effect result (task, has, same, (log, here, done)) (saving, next, is) did ended =
      let goes : GoesOn r r (Ok (Some (Perform effect))) = (saving, next, is) in
      let rest = saving.0 in
      let failed : is_ok result ≡ false =
      sym (ended_as (is_ok result) r mid effect (Err error) task rest goes ended).0 in
      let all = performed_more (effects_of asked) r.number effect result start log end
      (sym next.1 ∙ ap (λ l. nth l r.number) same)
      done (subst (λ m. Performs effect result m end.state) (sym here) did) in (
        (ended_as (is_ok result) r mid effect (Err error) task rest goes ended).1 refl,
        end,
        refl,
        (
          result,
          failed,
          performed_all (effects_of asked) (suc r.number) result start end
              (λ fine. absurd (false≢true (sym failed ∙ fine))) all,
        ),
      )

  -- the clauses for the loop
  pub effect_laws : (report ≡ Pending → end.state ≡ before)
      → Laws asked report (λ o r. PerformedAt asked start before o r)
      (λ o r. PerformedAt asked start end.state o r) (λ action. DoesAction action block report before end.state)
  effect_laws still = record {
    same = λ pending over r known. subst (λ m. PerformedAt asked start m over r) (sym (still pending)) known;
    performed = λ r mid effect outcome one known goes (result, is, did) settles.
        more outcome r mid effect result known goes did
        (settles_as (is_ok result) r mid outcome (subst (λ x. Settles x r mid outcome) is settles));
    wrote = λ b r mid samples at len outcome waiting reported known is place did ended. cc (one, waiting);
    cut = λ b r mid at outcome known rest same ended. let (idle, log, here, done) = known in
        (ap (λ (x : Recorder). x.phase) (stays_idle b r mid outcome idle ended) ∙ idle, log, here ∙ sym same, done);
    handed = λ mid r at len none known goes. absurd (block_phase mid r at len Saving known.0 goes);
    saved = λ mid r one task known goes. all_saved mid r known goes;
  }
    where
      all_saved : (mid r : Recorder) → PerformedAt asked start end.state None mid → GoesOn mid r (Ok None)
          → PerformedAt asked start end.state (Some true) r
      all_saved mid r (task, has, same, (log, here, done)) (inl (idle, _)) = cc (task, idle)
      all_saved mid r (task, has, same, (log, here, done)) (inr (busy, rest, none, is)) = (
        ap (λ (x : Recorder). x.phase) is,
        log,
        here,
        (
          Ok tt,
          refl,
          performed_all (effects_of asked) mid.number (Ok tt) start log
              (λ _. sym none.1 ∙ ap (λ l. nth l mid.number) same) done,
        ),
      )

pub effects_not_failed : (asked : Recorder) (start : Log) (m : MediumState) (new : Recorder) (error : RecorderError)
    (over : Option Bool) (mid : Recorder) → PerformedAt asked start m over mid → IsAlive mid
    → GoesOn mid new (Err error) → ⊥
effects_not_failed asked start m new error (Some b) mid (idle, _, _, _) low ((rest, inl saving), _, _) =
    cc (idle, saving)
effects_not_failed asked start m new error (Some b) mid (idle, _, _, _) low ((rest, inr (k, waiting, _)), _, _) =
    cc (idle, waiting)
effects_not_failed asked start m new error None mid (one, has, _, _) low (saving, cannot, is) =
    can mid error (low, has) cannot

-- where the loop begins
pub begins_effects : (asked : Recorder) (start : Log) (block : List ℕ) (now : MediumState) → asked.phase ≡ Saving
    → asked.number ≡ 0
    → HasData asked asked.data_length
    → IsWithin asked Pending asked None → Repeats start.state now
    → IsUnderWayBy (λ m over r. PerformedAt asked start m over r) asked block Pending asked now
begins_effects asked start block now one none has within repeats = (
  start.state,
  start,
  None,
  within,
  (one, has, refl, (start, refl, rw none (refl, refl))),
  inl refl,
  (λ _. refl),
  inl repeats,
)

-- a recorder that continues a file which was found
continues_as : (f : FoundFile) (r : Recorder) → Resumes f true false (Ok r)
    → (f.data_start + r.data_length ≤ f.length) × (r ≡ resumed_recorder f r.data_length)
continues_as f r resumes = by (kept_length f true false) resumes
  where
    by : (kept : Result ℕ RecorderError) → ResumesAfter f kept (Ok r)
        → (f.data_start + r.data_length ≤ f.length) × (r ≡ resumed_recorder f r.data_length)
    by (Ok n) (appends, held, this) =
        let same = sym (ap (λ (x : Recorder). x.data_length) this) in
        subst (λ n. (f.data_start + n ≤ f.length) × (r ≡ resumed_recorder f n)) same (held, this)
    by (Err error) never = absurd (false≢true (ap is_ok (sym never)))

pub is_cut_off : (f : FoundFile) (r : Recorder) (m : MediumState) → IsFound f m → Resumes f true false (Ok r)
    → f.data_length ≤ r.data_length → IsCutOff f r.data_length m
is_cut_off f r m found resumes counted =
    let (held, this) = continues_as f r resumes in
    record { sound = found.sound; head = found.head; counted = counted; held = omega (arith, held, found.all) }

-- once its file is mended
pub is_mended : (f : FoundFile) (r new : Recorder) (m : Log) (file : Begun) → Resumes f true false (Ok r)
    → new ≡ once_mended r
    → Directed f.spec_ex file [] (recorder_of f.spec_ex f.data_start r.data_length) m.state
    → Directed f.spec_ex file [] new m.state
is_mended f r new m file resumes is directed =
    let (held, this) = continues_as f r resumes in
    subst (λ r. Directed f.spec_ex file [] r m.state) (sym (is ∙ ap once_mended this)) directed

-- a place makes no difference
pub at_end : (place : ℕ) (end : Log) (now : MediumState) → Repeats end.state now
    → (m : Log) × Goes {T = Unit {0}} {E = IoFault} place (Ok tt) end.state m.state × Repeats m.state now
at_end place end now repeats = (
  record { state = record end.state { place = place }; replays = end.replays; small = end.small },
  record { stays = record { contents = refl; start = refl; past = refl }; place = refl; flushed = refl; faults = refl },
  record {
    state = repeats.state;
    in_order = repeats.in_order;
    within = repeats.within;
    same = repeats.same;
    last = repeats.last;
    contents = repeats.contents;
    flushed = repeats.flushed;
    synced = repeats.synced;
  },
)

-- a list of effects that ends with a sync
last_synced : (effects : List Effect) (result : Result (Unit {0}) IoFault) (start end : Log) → is_ok result ≡ true
    → Performed (effects ++ Sync ∷ []) result start end → IsSynced end.state
last_synced [] result start end ok (mid, Ok x, flush, (is, last)) = rw last flush.flushed
last_synced [] result start end ok (mid, Err e, flush, (is, last)) = absurd (false≢true (sym (ap is_ok is) ∙ ok))
last_synced (effect ∷ effects) result start end ok (mid, Ok x, did, rest) = last_synced effects result mid end ok rest
last_synced (effect ∷ effects) result start end ok (mid, Err e, did, (is, last)) =
    absurd (false≢true (sym (ap is_ok is) ∙ ok))

abbrev sizes_of : Recorder → List Effect
sizes_of r = Sync ∷ Size 4 (riff_size r.data_start r.data_length) ∷ Size (r.data_start - 4) r.data_length ∷ []

pub effects_synced : (r : Recorder) (start end : Log) (result : Result (Unit {0}) IoFault) → is_ok result ≡ true
    → Performed (effects_of r) result start end → IsSynced end.state
effects_synced r start end result ok done = by (is_sound r.health) (r.data_length % 2) done
  where
    by : (clean : Bool) (odd : ℕ) → Performed (if clean then pad_effects (r.data_start + r.data_length) odd
        ++ size_effects r.data_start r.data_length else Sync ∷ pad_effects (r.data_start + r.data_length) odd
        ++ size_effects r.data_start r.data_length) result start end → IsSynced end.state
    by true zero did = last_synced (sizes_of r) result start end ok did
    by true (suc k) did = last_synced (Pad (r.data_start + r.data_length) ∷ sizes_of r) result start end ok did
    by false zero did = last_synced (Sync ∷ sizes_of r) result start end ok did
    by false (suc k) did = last_synced (Sync ∷ Pad (r.data_start + r.data_length) ∷ sizes_of r) result start end ok did

-- what holds at an error
pub if_err : {T E : Type 0} {P : E → Type 0} (r : Result T E) → ((error : E) → P error) → IfErr r P
if_err (Ok x) here = tt
if_err (Err error) here = here error
