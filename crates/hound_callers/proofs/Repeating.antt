-- Actions that are performed again until their end is reported.
use Rattle.std.proofs.lemmas.Bool.{false≢true}
use Rattle.std.proofs.Common.{List, [], ◌∷◌, length, is_ok, ◌≡◌, ◌⊎◌, ◌<◌, ◌≤◌, ◌+◌, ◌-◌, ◌*◌, ℕ, Bool, true, false, inl, inr, Option, None, Some, Result, Ok, Err, refl, sym, ◌∙◌, ap, subst, arith, zero, suc}
use Rattle.std.specs.Prelude.{⊤}
use Rattle.std.specs.declared.io.Error.{Error as IoFault}
use Rattle.hound.specs.{Action, Advances, AreBytes, Begun, Directed, Flushes, Known, WavSpecEx, BeginsBlock, GoesOn, IsAlive, IsClear, IsSaid, Log, MediumState, PutsAt, Recorder, RecorderError, Repeats, Report, Settles, bytes_of, ThenGoesOn, written_first}
use Rattle.hound.specs.declared.Action.TheVariants.{Shorten, Perform, Read, WriteBlock}
use Rattle.hound.specs.declared.Effect.TheVariants.{Pad, Size, Sync}
use Rattle.hound.specs.declared.Health.TheVariants.{Dead}
use Rattle.hound.specs.declared.Phase.TheVariants.{Idle, Saving, Requested, Writing}
use Rattle.hound.specs.declared.RecorderError.TheVariants.{SyncFailed}
use Rattle.hound.specs.declared.Report.TheVariants.{Done, Failed, Pending}
use Rattle.hound.proofs.Recorders.{not_done, one_next}
use Rattle.hound_callers.specs.Recorder.{IsReportOf, TriesAction, bytes_for, place_for, report_for}
use Rattle.hound_callers.proofs.Driving.{DoesAction, HasAction, IsWithin, KnownAt, block_phase, cut_phase, effect_phase, not_pending, pending_or_made}

-- a write was begun, once or more often, and a beginning of its bytes is there
abbrev pub Tried : Action → List ℕ → MediumState → MediumState → Type 0
Tried (Perform Sync) block m now = Repeats m now
Tried (Shorten at) block m now = Repeats m now
Tried (Read at len) block m now = Repeats m now
Tried action block m now = (n : ℕ) × (n ≤ length (bytes_for action block))
    × Repeats (written_first (place_for action) (bytes_for action block) n m) now

-- each effect was performed once so far, or again one that the recorder returns again
abbrev pub IsOnTheWay : Report → Recorder → List ℕ → MediumState → MediumState → Type 0
IsOnTheWay report r block m now = Repeats m now
    ⊎ ((report ≡ Pending) × (action : Action) × GoesOn r r (Ok (Some action)) × Tried action block m now)

-- what became of an action: it isn't reported, or it was done so
abbrev pub Comes : Action → List ℕ → Report → MediumState → MediumState → MediumState → Type 0
Comes action block report before end now =
    ((report ≡ Pending) × (end ≡ before) × Tried action block end now)
    ⊎ ((b : Bool) × (report ≡ report_for b) × DoesAction action block report before end × Repeats end now)

-- the clauses of the law
pub record Again : Type 0 where
  pub begun : (at : ℕ) (bytes : List ℕ) (m now : MediumState) → Repeats m now → Repeats (written_first at bytes 0 m) now
  pub again : (at : ℕ) (bytes : List ℕ) (m : Log) (n : ℕ) (old new : MediumState) (result : Result (Unit {0}) IoFault)
      → n ≤ length bytes → Repeats (written_first at bytes n m.state) old → PutsAt true at bytes result old new
      → (n : ℕ) × (n ≤ length bytes) × Repeats (written_first at bytes n m.state) new
  pub written : (at : ℕ) (bytes : List ℕ) (m : Log) (n : ℕ) (old new : MediumState)
      (result said : Result (Unit {0}) IoFault)
      → n ≤ length bytes → Repeats (written_first at bytes n m.state) old → PutsAt true at bytes result old new
      → IsSaid said result → AreBytes new.contents
      → (once : Log) × PutsAt true at bytes said m.state once.state × Repeats once.state new
  pub synced : (m : Log) (old new : MediumState) (result said : Result (Unit {0}) IoFault) → Repeats m.state old
      → Flushes result old new → IsSaid said result
      → (once : Log) × Flushes said m.state once.state × Repeats once.state new

module _ (laws : Again) (block : List ℕ) where
  begun : (action : Action) (m now : MediumState) → Repeats m now → Tried action block m now
  begun (Perform Sync) m now repeats = repeats
  begun (Perform (Pad at)) m now repeats = (0, omega arith, laws.begun at (0 ∷ []) m now repeats)
  begun (Perform (Size at size)) m now repeats = (0, omega arith, laws.begun at (bytes_of 4 size) m now repeats)
  begun (WriteBlock at len) m now repeats = (0, omega arith, laws.begun at block m now repeats)
  begun (Shorten at) m now repeats = repeats
  begun (Read at len) m now repeats = repeats

  -- a write, by its report
  writes : (at : ℕ) (bytes : List ℕ) (m : Log) (old new : MediumState) (report : Report)
      (result : Result (Unit {0}) IoFault)
      → AreBytes new.contents → (n : ℕ) × (n ≤ length bytes) × Repeats (written_first at bytes n m.state) old
      → IsReportOf result report → PutsAt true at bytes result old new
      → (once : Log) × (((report ≡ Pending) × (once.state ≡ m.state)
      × ((n : ℕ) × (n ≤ length bytes) × Repeats (written_first at bytes n once.state) new))
      ⊎ ((b : Bool) × (report ≡ report_for b)
      × ((result : Result (Unit {0}) IoFault) × (report ≡ report_for (is_ok result))
      × PutsAt true at bytes result m.state once.state)
      × Repeats once.state new))
  writes at bytes m old new report result small (n, within, repeats) (inl pending) puts =
      (m, inl (pending, refl, laws.again at bytes m n old new result within repeats puts))
  writes at bytes m old new report result small (n, within, repeats) (inr is) puts =
      let (once, did, now) = laws.written at bytes m n old new result result within repeats puts (λ ok. ok) small in
      (once, inr (is_ok result, is, (result, is, did), now))

  -- nothing is done
  rests : (report : Report) (m : Log) (old new : MediumState) → Repeats m.state old → new ≡ old
      → (once : Log) × (((report ≡ Pending) × (once.state ≡ m.state) × Repeats once.state new)
      ⊎ ((b : Bool) × (report ≡ report_for b) × (once.state ≡ m.state) × Repeats once.state new))
  rests Pending m old new repeats same = (m, inl (refl, refl, subst (Repeats m.state) (sym same) repeats))
  rests Done m old new repeats same = (m, inr (true, refl, refl, subst (Repeats m.state) (sym same) repeats))
  rests Failed m old new repeats same = (m, inr (false, refl, refl, subst (Repeats m.state) (sym same) repeats))

  -- what is known once an action was performed
  pub comes : (action : Action) (report : Report) (m : Log) (old new : MediumState) → AreBytes new.contents
      → Tried action block m.state old → TriesAction action block report old new
      → (once : Log) × Comes action block report m.state once.state new
  comes (Perform Sync) report m old new small was (result, said, is, reported, flushes) =
      let (once, did, now) = laws.synced m old new result said was flushes is in
      (once, inr (is_ok said, reported, (said, reported, did), now))
  comes (Perform (Pad at)) report m old new small was (result, is, puts) =
      writes at (0 ∷ []) m old new report result small was is puts
  comes (Perform (Size at size)) report m old new small was (result, is, puts) =
      writes at (bytes_of 4 size) m old new report result small was is puts
  comes (WriteBlock at len) report m old new small was (result, is, puts) =
      writes at block m old new report result small was is puts
  comes (Shorten at) report m old new small was same = rests report m old new was same
  comes (Read at len) report m old new small was same = rests report m old new was same

  -- what is cut off, and what is done else, exclude each other
  cuts_alone : (r x y : Recorder) (at : ℕ) (other : Action) → GoesOn r x (Ok (Some (Shorten at)))
      → GoesOn r y (Ok (Some other))
      → ((to : ℕ) → other ≡ Shorten to → ⊥) → ⊥
  cuts_alone r x y at (Shorten to) goes again never = never to refl
  cuts_alone r x y at (Read to size) goes again never = again
  cuts_alone r x y at (Perform e) goes ((rest, inl saving), _, _) never =
      false≢true (cut_phase r x at Saving false saving rest goes)
  cuts_alone r x y at (Perform e) goes ((rest, inr (k, waiting, _)), _, _) never =
      false≢true (cut_phase r x at (Requested k) false waiting rest goes)
  cuts_alone r x y at (WriteBlock to size) goes (k, rest, inl (writing, _), _, _) never =
      false≢true (cut_phase r x at (Writing k) false writing rest goes)
  cuts_alone r x y at (WriteBlock to size) goes (k, rest, inr (waiting, _, _), _, _) never =
      false≢true (cut_phase r x at (Requested k) false waiting rest goes)

  pub goes_same : (r new : Recorder) (a b : Action) (m now : MediumState) → GoesOn r r (Ok (Some a))
      → GoesOn r new (Ok (Some b)) → Tried a block m now → Tried b block m now
  goes_same r new (Perform e) (Perform f) m now (saving, next, same) (_, also, _) was =
      subst (λ e. Tried (Perform e) block m now) (one_next r e f next also) was
  goes_same r new (Perform e) (WriteBlock at len) m now ((rest, how), next, same) (k, _, block_begun, _, _) was =
      absurd (by how block_begun)
    where
      by : (r.phase ≡ Saving) ⊎ ((n : ℕ) × (r.phase ≡ Requested n) × (IsClear r → ⊥)) → BeginsBlock k r new → ⊥
      by (inl here) (inl (writing, _)) = cc (here, writing)
      by (inl here) (inr (waiting, _, _)) = cc (here, waiting)
      by (inr (n, waiting, first)) (inl (writing, _)) = cc (waiting, writing)
      by (inr (n, waiting, first)) (inr (_, inl clear, _)) = first clear
      by (inr (n, waiting, first)) (inr (_, inr none, _)) = not_done r e next none
  goes_same r new (Perform e) (Shorten at) m now goes cuts was =
      absurd (cuts_alone r new r at (Perform e) cuts goes (λ to is. cc is))
  goes_same r new (Perform e) (Read at len) m now goes never was = absurd never
  goes_same r new (WriteBlock at len) (Perform f) m now (k, _, block_begun, _, _) effect was = absurd (by block_begun)
    where
      -- it returned a block, and is as it was
      by : BeginsBlock k r r → ⊥
      by (inl (writing, _)) = effect_phase r new f (Writing k) writing effect
      by (inr (_, _, is)) = effect_phase r new f (Writing k) (ap (λ (x : Recorder). x.phase) is) effect
  goes_same r new (WriteBlock at len) (WriteBlock to size) m now (k, _, _, there, _) (n, _, _, there2, _) was =
      subst (λ at. Tried (WriteBlock at len) block m now) (there ∙ sym there2) was
  goes_same r new (WriteBlock at len) (Shorten to) m now goes cuts was =
      absurd (cuts_alone r new r to (WriteBlock at len) cuts goes (λ to is. cc is))
  goes_same r new (WriteBlock at len) (Read to size) m now goes never was = absurd never
  goes_same r new (Shorten at) (Perform f) m now cuts goes was =
      absurd (cuts_alone r r new at (Perform f) cuts goes (λ to is. cc is))
  goes_same r new (Shorten at) (WriteBlock to size) m now cuts goes was =
      absurd (cuts_alone r r new at (WriteBlock to size) cuts goes (λ to is. cc is))
  goes_same r new (Shorten at) (Shorten to) m now goes again was = was
  goes_same r new (Shorten at) (Read to size) m now goes never was = absurd never
  goes_same r new (Read at len) b m now never again was = absurd never

  goes_none : (r new : Recorder) (a : Action) → GoesOn r r (Ok (Some a)) → GoesOn r new (Ok None) → ⊥
  goes_none r new (Perform e) goes (inl (idle, _)) = effect_phase r r e Idle idle goes
  goes_none r new (Perform e) (saving, next, same) (inr (one, _, none, _)) = not_done r e next none
  goes_none r new (WriteBlock at len) goes (inl (idle, _)) = block_phase r r at len Idle idle goes
  goes_none r new (WriteBlock at len) goes (inr (saving, _, _, _)) = block_phase r r at len Saving saving goes
  goes_none r new (Shorten at) goes (inl (idle, _)) = false≢true (cut_phase r r at Idle r.has_rest idle refl goes)
  goes_none r new (Shorten at) goes (inr (saving, rest, _, _)) =
      false≢true (cut_phase r r at Saving false saving rest goes)
  goes_none r new (Read at len) never none = absurd never

  -- without a report it continues from where it was, unless a sync has failed
  unreported : (report : Report) (r new : Recorder) (next : Result (Option Action) RecorderError) → report ≡ Pending
      → Advances report r new next → GoesOn r new next ⊎ ((r.health ≡ Dead) × (next ≡ Err SyncFailed))
  unreported report r new next pending (mid, outcome, settles, on) =
      let (same, ok) = subst (λ x. Settles x r mid outcome) pending settles in
      by mid same (subst (λ x. ThenGoesOn x mid new next) ok on)
    where
      by : (mid : Recorder) → mid ≡ r → ThenGoesOn (Ok tt) mid new next
          → GoesOn r new next ⊎ ((r.health ≡ Dead) × (next ≡ Err SyncFailed))
      by mid same (inl (low, goes)) = inl (subst (λ x. GoesOn x new next) same goes)
      by mid same (inr (high, is, _)) = inr (sym (ap (λ (x : Recorder). x.health) same) ∙ high, is)

  pub is_tried : (report : Report) (r new : Recorder) (action : Action) (m now : MediumState)
      → IsOnTheWay report r block m now → Advances report r new (Ok (Some action)) → Tried action block m now
  is_tried report r new action m now (inl repeats) next = begun action m now repeats
  is_tried report r new action m now (inr (pending, a, goes, was)) next =
      by (unreported report r new (Ok (Some action)) pending next)
    where
      by : GoesOn r new (Ok (Some action)) ⊎ ((r.health ≡ Dead) × (Ok (Some action) ≡ Err SyncFailed))
          → Tried action block m now
      by (inl on) = goes_same r new a action m now goes on was
      by (inr (_, never)) = cc

  pub all_done : (report : Report) (r new : Recorder) (m now : MediumState)
      → IsOnTheWay report r block m now → Advances report r new (Ok None) → Repeats m now
  all_done report r new m now (inl repeats) next = repeats
  all_done report r new m now (inr (pending, a, goes, was)) next =
      by (unreported report r new (Ok None) pending next)
    where
      by : GoesOn r new (Ok None)
          ⊎ ((r.health ≡ Dead) × (◌≡◌ {A = Result (Option Action) RecorderError} (Ok None) (Err SyncFailed)))
          → Repeats m now
      by (inl on) = absurd (goes_none r new a goes on)
      by (inr (_, never)) = cc

  pub has_failed : (report : Report) (r new : Recorder) (error : RecorderError) (m now : MediumState)
      → (report ≡ Pending → IsAlive r × (GoesOn r new (Err error) → ⊥)) → IsOnTheWay report r block m now
      → Advances report r new (Err error) → Repeats m now
  has_failed report r new error m now never (inl repeats) next = repeats
  has_failed report r new error m now never (inr (pending, a, goes, was)) next =
      by (unreported report r new (Err error) pending next)
    where
      by : GoesOn r new (Err error)
          ⊎ ((r.health ≡ Dead) × (◌≡◌ {A = Result (Option Action) RecorderError} (Err error) (Err SyncFailed)))
          → Repeats m now
      by (inl on) = absurd ((never pending).1 on)
      by (inr (dead, _)) = absurd ((never pending).0 dead)

-- What is known while actions are performed: what came of the last one that is reported, and whether another was begun.
abbrev pub IsUnderWayBy : (MediumState → Option Bool → Recorder → Type 0) → Recorder → List ℕ → Report → Recorder
    → MediumState → Type 0
IsUnderWayBy known_at asked block report r now = (before : MediumState) × (end : Log) × (over : Option Bool)
    × IsWithin asked report r over × known_at before over r
    × HasAction report (λ action. DoesAction action block report before end.state) r
    × (report ≡ Pending → end.state ≡ before) × IsOnTheWay report r block end.state now

-- the same of calls
abbrev pub IsUnderWay : WavSpecEx → Begun → List Known → Recorder → List ℕ → Report → Recorder → MediumState → Type 0
IsUnderWay s file known asked block report r now =
    IsUnderWayBy (λ m over r. KnownAt s file known asked block m over r) asked block report r now

pub begins_directed : (s : WavSpecEx) (file : Begun) (known : List Known) (asked : Recorder) (block : List ℕ)
    (once now : MediumState) → IsWithin asked Pending asked None → Directed s file known asked once → Repeats once now
    → IsUnderWay s file known asked block Pending asked now
begins_directed s file known asked block once now within d repeats =
    let here = d.in_step.state in
    (once, d.in_step.log, None, within, d, inl refl, (λ _. here), inl (subst (λ m. Repeats m now) (sym here) repeats))

pub come_again : (known_at : MediumState → Option Bool → Recorder → Type 0) (asked : Recorder) (block : List ℕ)
    (report : Report) (r : Recorder) (action : Action) (over : Option Bool) (before : MediumState) (end : Log)
    (now : MediumState) → IsWithin asked report r over → known_at before over r → GoesOn r r (Ok (Some action))
    → Comes action block report before end.state now → IsUnderWayBy known_at asked block report r now
come_again known_at asked block report r action over before end now within known goes (inl (pending, same, was)) =
    (before, end, over, within, known, inl pending, (λ _. same), inr (pending, action, goes, was))
come_again known_at asked block report r action over before end now within known goes (inr (b, is, did, repeats)) = (
  before,
  end,
  over,
  within,
  known,
  inr (b, is, action, goes, did),
  (λ pending. absurd (not_pending b (sym is ∙ pending))),
  inl repeats,
)

-- an action was returned, and may have been reported
pub has_action : (report : Report) (r : Recorder) (action : Action) → GoesOn r r (Ok (Some action))
    → HasAction report (λ _. ⊤) r
has_action report r action goes = by (pending_or_made report)
  where
    by : (report ≡ Pending) ⊎ ((b : Bool) × (report ≡ report_for b)) → HasAction report (λ _. ⊤) r
    by (inl pending) = inl pending
    by (inr (b, is)) = inr (b, is, action, goes, tt)

-- each turn comes closer to the end, or uses up one of the reports that may be lost
pub smaller : (is_lost : Bool) (left after reported now made more all : ℕ)
    → (reported ≡ 0 → after ≤ left) → (reported ≡ 1 → after < left) → reported ≤ 1
    → (is_lost ≡ true → more ≡ made + 1) → made ≤ more → more ≤ all → (is_lost ≡ false → now ≡ 1)
    → 2 * after + (1 - now) + 2 * (all - more) < 2 * left + (1 - reported) + 2 * (all - made)
smaller true left after zero now made more all again next few counted grows within kept =
    omega (arith, counted refl, again refl, within)
smaller true left after (suc n) now made more all again next few counted grows within kept =
    omega (arith, counted refl, next (omega (arith, few)), few, within)
smaller false left after zero now made more all again next few counted grows within kept =
    omega (arith, kept refl, again refl, grows, within)
smaller false left after (suc n) now made more all again next few counted grows within kept =
    omega (arith, kept refl, next (omega (arith, few)), few, grows, within)
