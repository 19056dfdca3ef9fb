-- What a loop does that performs one action after the other, as a recorder says.
use Rattle.std.proofs.lemmas.Bool.{false≢true}
use Rattle.std.proofs.lemmas.Grind.{common_steps}
use Rattle.std.specs.declared.io.Error.{Error as IoFault}
use Rattle.std.proofs.lemmas.List.{append-nil}
use Rattle.std.proofs.Common.{
  List,
  [],
  ◌∷◌,
  ◌++◌,
  length,
  is_ok,
  ◌≡◌,
  ◌⊎◌,
  ◌<◌,
  ◌≤◌,
  ◌+◌,
  ◌-◌,
  ℕ,
  Bool,
  true,
  false,
  inl,
  inr,
  Option,
  None,
  Some,
  Result,
  Ok,
  Err,
  refl,
  sym,
  ◌∙◌,
  ap,
  subst,
  arith,
}
use Rattle.std.specs.Prelude.{⊤}
use Rattle.hound.specs.{Action, Asked, Begun, Directed, Effect, Known, Log, MediumState, Performs, PutsAt, WavSpecEx, block_known, cut_known, marked, publish, whole_containers, write, BeginsBlock, CanSave, CannotSave, EffectEnds, EndsEffect, GoesOn, HasEnded, HasNext, IsAlive, MaySave, Phase, Recorder, RecorderError, Report, Settles, Advances, ThenGoesOn, after_block, cuts_next, doubted, end_place, saved as once_saved}
use Rattle.hound.specs.declared.Action.TheVariants.{Shorten, Perform, Read, WriteBlock}
use Rattle.hound.specs.declared.Health.TheVariants.{Sound, Suspect}
use Rattle.hound.specs.declared.Phase.TheVariants.{Idle, Saving, Requested, Writing, Cleaning}
use Rattle.hound.specs.declared.Report.TheVariants.{Done, Failed, Pending}
use Rattle.hound.specs.declared.RecorderError.TheVariants.{
  NotWritable,
  UnfinishedFrame,
  TooLong,
  Truncated,
  NeedsMend,
  NeedsOverwrite,
  NeedsCheckpoint,
  SyncFailed,
}
use Rattle.hound.proofs.Recorders.{not_done}
use Rattle.hound_callers.specs.Recorder.{HasRequest, asked_as, length_after, once_done, report_for}

-- what an action does, whose end is reported: a medium is neither read nor cut off
abbrev pub DoesAction : Action → List ℕ → Report → MediumState → MediumState → Type 0
DoesAction (Perform effect) block report old new = (result : Result (Unit {0}) IoFault)
    × (report ≡ report_for (is_ok result)) × Performs effect result old new
DoesAction (WriteBlock at len) block report old new = (result : Result (Unit {0}) IoFault)
    × (report ≡ report_for (is_ok result)) × PutsAt true at block result old new
DoesAction _ block report old new = new ≡ old

-- what a call for what was requested is marked with, if it is over
abbrev pub reported_as : Result (Unit {0}) RecorderError → Option Bool
reported_as (Ok x) = None
reported_as (Err error) = Some false

-- where the loop is: what was requested isn't over, or it has failed, and the rest is to be cut off
abbrev pub IsWithin : Recorder → Report → Recorder → Option Bool → Type 0
IsWithin asked report r over =
    ((asked.phase ≡ Saving) × (r ≡ record asked { number = r.number }) × (over ≡ None))
    ⊎ ((n : ℕ) × (asked.phase ≡ Requested n) × (report ≡ Pending) × (r ≡ asked) × (over ≡ None))
    ⊎ ((n : ℕ) × (asked.phase ≡ Requested n) × (r ≡ record asked { phase = Writing n }) × (over ≡ None))
    ⊎ ((n : ℕ) × (asked.phase ≡ Requested n) × (r ≡ record asked { health = Suspect; phase = Cleaning })
    × (over ≡ Some false))

-- an action was reported
abbrev pub step_of : Report → ℕ
step_of Pending = 0
step_of _ = 1

-- nothing is reported yet, or the action that the recorder returned
abbrev pub HasAction : Report → (Action → Type 0) → Recorder → Type 0
HasAction report does r = (report ≡ Pending)
    ⊎ ((b : Bool) × (report ≡ report_for b) × (action : Action) × GoesOn r r (Ok (Some action)) × does action)

-- where it is once that is reported
abbrev pub IsSettled : Recorder → Recorder → Option Bool → Type 0
IsSettled asked mid over = IsWithin asked Pending mid over
    ⊎ ((n : ℕ) × (asked.phase ≡ Requested n) × (mid ≡ once_done asked) × (over ≡ Some true))

-- where the loop is doesn't hang on the report, once one is made
pub settles_as : (b : Bool) (old new : Recorder) (outcome : Result (Unit {0}) RecorderError)
    → Settles (report_for b) old new outcome → HasEnded b old new outcome
settles_as true old new outcome is = is
settles_as false old new outcome is = is

pub at_rest : (report : Report) → step_of report ≡ 0 → report ≡ Pending
at_rest Pending none = refl
at_rest Done none = absurd (omega (arith, none))
at_rest Failed none = absurd (omega (arith, none))

pub not_at_rest : (report : Report) → (report ≡ Pending → ⊥) → step_of report ≡ 1
not_at_rest Pending other = absurd (other refl)
not_at_rest Done other = refl
not_at_rest Failed other = refl

pub not_pending : (b : Bool) → report_for b ≡ Pending → ⊥
not_pending true is = cc
not_pending false is = cc

-- What is known while it runs, by whether the call is over, before and after the action that is reported. These are the
-- law's clauses, for what was requested.
pub record Laws (asked : Recorder) (report : Report) (before after : Option Bool → Recorder → Type 0)
    (does : Action → Type 0) : Type 0 where
  pub same : report ≡ Pending → (over : Option Bool) (r : Recorder) → before over r → after over r
  pub performed : (r mid : Recorder) (effect : Effect) (outcome : Result (Unit {0}) RecorderError)
      → asked.phase ≡ Saving
      → before None r → GoesOn r r (Ok (Some (Perform effect))) → does (Perform effect)
      → Settles report r mid outcome → after (reported_as outcome) mid
  pub wrote : (b : Bool) (r mid : Recorder) (n at len : ℕ) (outcome : Result (Unit {0}) RecorderError)
      → asked.phase ≡ Requested n → report ≡ report_for b → before None r → r ≡ record asked { phase = Writing n }
      → GoesOn r r (Ok (Some (WriteBlock at len))) → does (WriteBlock at len) → HasEnded b r mid outcome
      → after (Some b) mid
  pub cut : (b : Bool) (r mid : Recorder) (at : ℕ) (outcome : Result (Unit {0}) RecorderError)
      → before (Some false) r → cuts_next r.phase r.has_rest ≡ true → does (Shorten at) → HasEnded b r mid outcome
      → after (Some false) mid
  pub handed : (mid r : Recorder) (at len : ℕ) → mid.number ≡ 0 → after None mid
      → GoesOn mid r (Ok (Some (WriteBlock at len))) → after None r
  pub saved : (mid r : Recorder) → asked.phase ≡ Saving → mid.phase ≡ Saving → after None mid → GoesOn mid r (Ok None)
      → after (Some true) r

-- what the end of an effect makes of the recorder
abbrev pub Shape : Result (Unit {0}) RecorderError → Recorder → Recorder → Type 0
Shape (Ok x) r mid = mid ≡ record r { number = r.number + 1 }
Shape (Err error) r mid = mid.number ≡ 0

shape_by : (b : Bool) (r mid : Recorder) (effect : Effect) (outcome : Result (Unit {0}) RecorderError)
    → EffectEnds b effect r mid outcome → Shape outcome r mid
shape_by true r mid effect outcome (is, ok) = rw ok is
shape_by false r mid effect outcome (is, err) = rw err (ap (λ (x : Recorder). x.number) is)

-- a checkpoint that can be made isn't rejected
pub can : (r : Recorder) (error : RecorderError) → CanSave r → CannotSave r error → ⊥
can r SyncFailed (low, has) dead = low dead
can r NotWritable (low, has) (_, never) = grind (arith, common_steps)
can r TooLong (low, has) (_, never) = grind (arith, common_steps)
can r NeedsCheckpoint given (_, never) = never
can r UnfinishedFrame given (_, never) = never
can r Truncated given (_, never) = never
can r NeedsMend given (_, never) = never
can r NeedsOverwrite given (_, never) = never

-- a checkpoint of which an effect is next hasn't ended
abbrev pub EndsNext : Bool → Recorder → Recorder → Result (Unit {0}) RecorderError → Type 0
EndsNext b r mid outcome = (effect : Effect) × EffectEnds b effect r mid outcome

pub ends_next : (b : Bool) (r mid : Recorder) (effect : Effect) (outcome : Result (Unit {0}) RecorderError)
    → HasNext effect r → EndsEffect b r mid outcome → EndsNext b r mid outcome
ends_next b r mid effect outcome next (inl (other, _, ends)) = (other, ends)
ends_next b r mid effect outcome next (inr (inl (none, _, _))) = absurd (not_done r effect next none)
ends_next b r mid effect outcome next (inr (inr (error, cannot, _, _))) = absurd (can r error next.0 cannot)

pub ended_next : (b : Bool) (r mid : Recorder) (effect : Effect) (outcome : Result (Unit {0}) RecorderError)
    → r.phase ≡ Saving → r.has_rest ≡ false → GoesOn r r (Ok (Some (Perform effect))) → HasEnded b r mid outcome
    → EndsNext b r mid outcome
ended_next b r mid effect outcome saving rest goes (inl (none, _, _)) = cc (saving, none)
ended_next b r mid effect outcome saving rest goes (inr (inl (cleaning, _, _))) = cc (saving, cleaning)
ended_next b r mid effect outcome saving rest goes (inr (inr (inl (_, _, cuts, _, _)))) =
    absurd (false≢true (sym rest ∙ cuts))
ended_next b r mid effect outcome saving rest goes (inr (inr (inr (inl (n, writing, _, _, _))))) = cc (saving, writing)
ended_next b r mid effect outcome saving rest (_, next, _) (inr (inr (inr (inr (_, _, ends))))) =
    ends_next b r mid effect outcome next ends

pub shape : (b : Bool) (r mid : Recorder) (effect : Effect) (outcome : Result (Unit {0}) RecorderError)
    → r.phase ≡ Saving → r.has_rest ≡ false → GoesOn r r (Ok (Some (Perform effect))) → HasEnded b r mid outcome
    → Shape outcome r mid
shape b r mid effect outcome saving rest goes ended =
    let (other, ends) = ended_next b r mid effect outcome saving rest goes ended in
    shape_by b r mid other outcome ends

pub begins : (asked : Recorder) (n : ℕ) → HasRequest asked n → IsWithin asked Pending asked None
begins asked n (_, _, _, inl saving) = inl (saving, refl, refl)
begins asked n (_, _, _, inr (waiting, _)) = inr (inl (asked.data_length + n, waiting, refl, refl, refl))

pub is_made : (report : Report) → (report ≡ Pending → ⊥) → (b : Bool) × (report ≡ report_for b)
is_made Pending other = absurd (other refl)
is_made Done other = (true, refl)
is_made Failed other = (false, refl)

pub pending_or_made : (report : Report) → (report ≡ Pending) ⊎ ((b : Bool) × (report ≡ report_for b))
pending_or_made Pending = inl refl
pending_or_made Done = inr (true, refl)
pending_or_made Failed = inr (false, refl)

pub one_at_most : (report : Report) → step_of report ≤ 1
one_at_most Pending = omega arith
one_at_most Done = omega arith
one_at_most Failed = omega arith

-- a block is written only in its phase, and an effect of a checkpoint performed only in one of its phases
abbrev IsBlockPhase : Phase → Type 0
IsBlockPhase (Requested n) = Unit
IsBlockPhase (Writing n) = Unit
IsBlockPhase _ = ⊥

pub block_phase : (mid r : Recorder) (at len : ℕ) (phase : Phase) → mid.phase ≡ phase
    → GoesOn mid r (Ok (Some (WriteBlock at len)))
    → IsBlockPhase phase
block_phase mid r at len phase is (n, rest, inl (writing, same), _, _) =
    let this : phase ≡ Writing n = sym is ∙ writing in rw this tt
block_phase mid r at len phase is (n, rest, inr (waiting, due, same), _, _) =
    let this : phase ≡ Requested n = sym is ∙ waiting in rw this tt

pub effect_phase : (mid r : Recorder) (effect : Effect) (phase : Phase) → mid.phase ≡ phase
    → GoesOn mid r (Ok (Some (Perform effect)))
    → MaySave phase
effect_phase mid r effect phase is ((rest, inl saving), next, same) =
    let this : phase ≡ Saving = sym is ∙ saving in rw this tt
effect_phase mid r effect phase is ((rest, inr (n, waiting, first)), next, same) =
    let this : phase ≡ Requested n = sym is ∙ waiting in rw this tt

-- something is cut off only in its phase
pub cut_phase : (mid r : Recorder) (at : ℕ) (phase : Phase) (rest : Bool) → mid.phase ≡ phase → mid.has_rest ≡ rest
    → GoesOn mid r (Ok (Some (Shorten at))) → cuts_next phase rest ≡ true
cut_phase mid r at phase rest is follows (cuts, same, there) =
    subst (λ (x : Phase × Bool). cuts_next x.0 x.1 ≡ true) (λ i. (is i, follows i)) cuts

phase_of : (a b : Recorder) → a ≡ b → a.phase ≡ b.phase
phase_of a b is = ap (λ (x : Recorder). x.phase) is

rest_of : (a b : Recorder) → a ≡ b → a.has_rest ≡ b.has_rest
rest_of a b is = ap (λ (x : Recorder). x.has_rest) is

same_written : (a b : ℕ) → Writing a ≡ Writing b → a ≡ b
same_written a b is = cc is

same_waiting : (a b : ℕ) → Requested a ≡ Requested b → a ≡ b
same_waiting a b is = cc is

module _ (asked : Recorder) (n : ℕ) (is_asked : HasRequest asked n) where
  -- nothing failed before a block that is requested
  is_clean : (k : ℕ) → asked.phase ≡ Requested k → asked.health ≡ Sound
  is_clean k waiting = by is_asked.3
    where
      by : (asked.phase ≡ Saving) ⊎ ((asked.phase ≡ Requested (asked.data_length + n)) × (asked.health ≡ Sound))
          → asked.health ≡ Sound
      by (inl saving) = cc (saving, waiting)
      by (inr (_, clean)) = clean

  -- once a block is written, or has failed
  abbrev Wrote : Bool → Recorder → Type 0
  Wrote true mid = mid ≡ once_done asked
  Wrote false mid = mid ≡ record asked { health = Suspect; phase = Cleaning }

  wrote_shape : (b : Bool) (r mid : Recorder) (k : ℕ) → asked.phase ≡ Requested k
      → r ≡ record asked { phase = Writing k } → mid ≡ after_block b k r → Wrote b mid
  wrote_shape true r mid k waiting is ended =
      let none = is_asked.0 in
      let clean = is_clean k waiting in
      rw (ended, is) (λ i. record asked {
        data_length = length_after (sym waiting i) asked;
        number = none i;
        health = clean i;
        phase = Idle;
      })
  wrote_shape false r mid k waiting is ended =
      let doubt : doubted asked.health ≡ Suspect = rw (is_clean k waiting) refl in
      ended ∙ ap (after_block false k) is ∙ (λ i. record asked { health = doubt i; phase = Cleaning })

  block_ended : (b : Bool) (r mid : Recorder) (k at len : ℕ) (outcome : Result (Unit {0}) RecorderError)
      → asked.phase ≡ Requested k → r ≡ record asked { phase = Writing k } → HasEnded b r mid outcome
      → (outcome ≡ Ok tt) × Wrote b mid
  block_ended b r mid k at len outcome waiting is ended = by ended
    where
      writing : r.phase ≡ Writing k
      writing = ap (λ (x : Recorder). x.phase) is

      by : HasEnded b r mid outcome → (outcome ≡ Ok tt) × Wrote b mid
      by (inl (none, _, _)) = cc (writing, none)
      by (inr (inl (cleaning, _, _))) = cc (writing, cleaning)
      by (inr (inr (inl (_, _, cuts, _, _)))) =
          let rest : r.has_rest ≡ false = ap (λ (x : Recorder). x.has_rest) is
          ∙ is_asked.2 in absurd (false≢true (sym rest ∙ cuts))
      by (inr (inr (inr (inr (may, _, _))))) = absurd (rw writing at may)
      by (inr (inr (inr (inl (m, written, _, ends, ok))))) =
          let m_is = same_written m k (sym written ∙ writing) in
          (ok, wrote_shape b r mid k waiting is (subst (λ m. mid ≡ after_block b m r) m_is ends))

  alive_as : (mid : Recorder) → mid.health ≡ asked.health → IsAlive mid
  alive_as mid is dead = is_asked.1 (sym is ∙ dead)

  pub settled_low : (mid : Recorder) (over : Option Bool) → IsSettled asked mid over → IsAlive mid
  settled_low mid over (inl (inl (saving, is, none))) = alive_as mid (ap (λ (x : Recorder). x.health) is)
  settled_low mid over (inl (inr (inl (k, waiting, _, is, none)))) = alive_as mid (ap (λ (x : Recorder). x.health) is)
  settled_low mid over (inl (inr (inr (inl (k, waiting, is, none))))) =
      alive_as mid (ap (λ (x : Recorder). x.health) is)
  settled_low mid over (inl (inr (inr (inr (k, waiting, is, lost))))) = λ dead.
      let suspect : mid.health ≡ Suspect = ap (λ (x : Recorder). x.health) is in cc (suspect, dead)
  settled_low mid over (inr (k, waiting, is, ok)) = λ dead.
      let sound : mid.health ≡ Sound = ap (λ (x : Recorder). x.health) is in cc (sound, dead)

  module _ (report : Report) (before after : Option Bool → Recorder → Type 0) (does : Action → Type 0)
      (laws : Laws asked report before after does) where
    -- what is known once the action is reported
    abbrev After : Recorder → Result (Unit {0}) RecorderError → Recorder → Type 0
    After r (Ok x) mid = (over : Option Bool) × IsSettled asked mid over × after over mid
    After r (Err error) mid = (mid.number ≡ 0) × after (Some false) mid

    effect_over : (outcome : Result (Unit {0}) RecorderError) (r mid : Recorder) → asked.phase ≡ Saving
        → r ≡ record asked { number = r.number } → Shape outcome r mid → after (reported_as outcome) mid
        → After r outcome mid
    effect_over (Ok x) r mid saving is shaped known =
        let number : mid.number ≡ r.number + 1 = ap (λ (x : Recorder). x.number) shaped in (
          None,
          inl (inl (saving, shaped ∙ (λ i. record (is i) { number = sym number i }), refl)),
          known,
        )
    effect_over (Err error) r mid saving is shaped known = (shaped, known)

    block_over : (b : Bool) (outcome : Result (Unit {0}) RecorderError) (r mid : Recorder) (k : ℕ)
        → asked.phase ≡ Requested k → outcome ≡ Ok tt → Wrote b mid → after (Some b) mid → After r outcome mid
    block_over true outcome r mid k waiting ok is known = rw ok (Some true, inr (k, waiting, is, refl), known)
    block_over false outcome r mid k waiting ok is known =
        rw ok (Some false, inl (inr (inr (inr (k, waiting, is, refl)))), known)

    cut_over : (b : Bool) (r mid : Recorder) (outcome : Result (Unit {0}) RecorderError) → r.phase ≡ Cleaning
        → r.number ≡ 0 → HasEnded b r mid outcome → after (Some false) mid → After r outcome mid
    cut_over b r mid outcome cleaning zero (inl (none, _, _)) known = cc (cleaning, none)
    cut_over b r mid outcome cleaning zero (inr (inl (_, is, err))) known =
        rw err (ap (λ (x : Recorder). x.number) is ∙ zero, known)
    cut_over b r mid outcome cleaning zero (inr (inr (inl (_, other, _, _, _)))) known = absurd (other cleaning)
    cut_over b r mid outcome cleaning zero (inr (inr (inr (inl (k, writing, _, _, _))))) known = cc (cleaning, writing)
    cut_over b r mid outcome cleaning zero (inr (inr (inr (inr (may, _, _))))) known = absurd (rw cleaning at may)

    -- an action was reported
    over_by : (b : Bool) → report ≡ report_for b → (r mid : Recorder) (over : Option Bool)
        (outcome : Result (Unit {0}) RecorderError) (action : Action) → IsWithin asked report r over → before over r
        → GoesOn r r (Ok (Some action)) → does action → HasEnded b r mid outcome → Settles report r mid outcome
        → After r outcome mid
    over_by b reported r mid over outcome (Perform effect) (inl (saving, is, none)) known goes did ended settles =
        effect_over outcome r mid saving is
        (shape b r mid effect outcome (phase_of r _ is ∙ saving) (rest_of r _ is ∙ is_asked.2) goes ended)
        (laws.performed r mid effect outcome saving (subst (λ o. before o r) none known) goes did settles)
    over_by b reported r mid over outcome (WriteBlock at len) (inl (saving, is, none)) known goes did ended settles =
        absurd (block_phase r r at len Saving (phase_of r _ is ∙ saving) goes)
    over_by b reported r mid over outcome (Shorten at) (inl (saving, is, none)) known goes did ended settles =
        absurd (false≢true (cut_phase r r at Saving false (phase_of r _ is ∙ saving) (rest_of r _ is ∙ is_asked.2)
        goes))
    over_by b reported r mid over outcome (Read at len) within known goes did ended settles = absurd goes
    over_by b reported r mid over outcome action (inr (inl (k, waiting, pending, is, none))) known goes did ended
        settles =
        absurd (not_pending b (sym reported ∙ pending))
    over_by b reported r mid over outcome (WriteBlock at len) (inr (inr (inl (k, waiting, is, none)))) known goes did
        ended settles =
        let (ok, wrote) = block_ended b r mid k at len outcome waiting is ended in
        block_over b outcome r mid k waiting ok wrote
        (laws.wrote b r mid k at len outcome waiting reported (subst (λ o. before o r) none known) is goes did ended)
    over_by b reported r mid over outcome (Perform effect) (inr (inr (inl (k, waiting, is, none)))) known goes did ended
        settles =
        absurd (effect_phase r r effect (Writing k) (phase_of r _ is) goes)
    over_by b reported r mid over outcome (Shorten at) (inr (inr (inl (k, waiting, is, none)))) known goes did ended
        settles =
        absurd (false≢true (cut_phase r r at (Writing k) false (phase_of r _ is) (rest_of r _ is ∙ is_asked.2) goes))
    over_by b reported r mid over outcome (Shorten at) (inr (inr (inr (k, waiting, is, lost)))) known goes did ended
        settles =
        cut_over b r mid outcome (phase_of r _ is) (ap (λ (x : Recorder). x.number) is ∙ is_asked.0) ended
        (laws.cut b r mid at outcome (subst (λ o. before o r) lost known) goes.0 did ended)
    over_by b reported r mid over outcome (Perform effect) (inr (inr (inr (k, waiting, is, lost)))) known goes did ended
        settles =
        absurd (effect_phase r r effect Cleaning (phase_of r _ is) goes)
    over_by b reported r mid over outcome (WriteBlock at len) (inr (inr (inr (k, waiting, is, lost)))) known goes did
        ended settles =
        absurd (block_phase r r at len Cleaning (phase_of r _ is) goes)

    -- what was reported is taken in
    pub settled : (r mid : Recorder) (over : Option Bool) (outcome : Result (Unit {0}) RecorderError)
        → IsWithin asked report r over → before over r → HasAction report does r → Settles report r mid outcome
        → After r outcome mid
    settled r mid over outcome within known (inr (b, reported, action, goes, did)) settles =
        over_by b reported r mid over outcome action within known goes did
        (settles_as b r mid outcome (subst (λ x. Settles x r mid outcome) reported settles)) settles
    settled r mid over outcome within known (inl pending) settles =
        let (same, ok) = subst (λ x. Settles x r mid outcome) pending settles in
        rw (ok, same) (
          over,
          inl (subst (λ x. IsWithin asked x r over) pending within),
          laws.same pending over r known,
        )

    -- what was requested continues
    abbrev pub OnWith : Recorder → Recorder → Action → Type 0
    OnWith mid r action = (over : Option Bool) × ((next : Report) → IsWithin asked next r over) × after over r
        × GoesOn r r (Ok (Some action))

    -- a block that is begun is handed out
    handed_on : (mid r : Recorder) (k at len : ℕ) → asked.phase ≡ Requested k → r ≡ record asked { phase = Writing k }
        → at ≡ end_place asked → len ≡ k - asked.data_length → after None r → OnWith mid r (WriteBlock at len)
    handed_on mid r k at len waiting is there long known = (
      None,
      (λ _. inr (inr (inl (k, waiting, is, refl)))),
      known,
      subst (λ r. GoesOn r r (Ok (Some (WriteBlock at len)))) (sym is)
          (k, is_asked.2, inl (refl, refl), there, long),
    )

    -- a block that was requested is begun at once, since nothing failed before it
    as_asked : (mid r : Recorder) (n k : ℕ) → asked.phase ≡ Requested n → mid ≡ asked → BeginsBlock k mid r
        → (k ≡ n) × (r ≡ record asked { phase = Writing n })
    as_asked mid r n k waiting is (inl (writing, one)) =
        let this = phase_of mid asked is ∙ waiting in cc (writing, this)
    as_asked mid r n k waiting is (inr (here, due, one)) =
        let same = same_waiting k n (sym here ∙ phase_of mid asked is ∙ waiting) in (
          same,
          one ∙ (λ i. record (once_saved (is i)) { phase = Writing (same i) })
              ∙ (λ i. record asked {
                number = sym is_asked.0 i;
                health = sym (is_clean n waiting) i;
                phase = Writing n;
              }),
        )

    -- a block that was handed out is so again
    as_handed : (mid r : Recorder) (n k : ℕ) → mid ≡ record asked { phase = Writing n } → BeginsBlock k mid r
        → (k ≡ n) × (r ≡ record asked { phase = Writing n })
    as_handed mid r n k is (inl (writing, one)) = (same_written k n (sym writing ∙ phase_of mid _ is), one ∙ is)
    as_handed mid r n k is (inr (waiting, due, one)) = let this = phase_of mid _ is in cc (waiting, this)

    pub goes_on : (mid r : Recorder) (over : Option Bool) (action : Action) → IsSettled asked mid over → after over mid
        → GoesOn mid r (Ok (Some action)) → OnWith mid r action
    goes_on mid r over (Read at len) settled known goes = absurd goes
    goes_on mid r over (Perform effect) (inl (inl (saving, is, none))) known (phase, next, same) =
        rw same (over, (λ _. inl (saving, is, none)), known, (phase, next, refl))
    goes_on mid r over (WriteBlock at len) (inl (inl (saving, is, none))) known goes =
        absurd (block_phase mid r at len Saving (phase_of mid _ is ∙ saving) goes)
    goes_on mid r over (Shorten at) (inl (inl (saving, is, none))) known goes =
        absurd (false≢true (cut_phase mid r at Saving false (phase_of mid _ is ∙ saving) (rest_of mid _ is ∙ is_asked.2)
        goes))
    goes_on mid r over (Perform effect) (inl (inr (inl (k, waiting, _, is, none)))) known goes =
        absurd (clear goes)
      where
        clear : GoesOn mid r (Ok (Some (Perform effect))) → ⊥
        clear ((rest, inl saving), _, _) = let this = phase_of mid asked is ∙ waiting in cc (saving, this)
        clear ((rest, inr (samples, _, doubtful)), _, _) =
            doubtful (
              ap (λ (x : Recorder). x.health) is ∙ is_clean k waiting,
              ap (λ (x : Recorder). x.number) is
                  ∙ is_asked.0,
            )
    goes_on mid r over (WriteBlock at len) (inl (inr (inl (k, waiting, p, is, none)))) known
        (samples, rest, begun, there, long) =
        let number : mid.number ≡ asked.number = ap (λ (x : Recorder). x.number) is in
        let (one, this) = as_asked mid r k samples waiting is begun in
        handed_on mid r k at len waiting this (there ∙ ap end_place is)
        (long ∙ (λ i. one i - (is i).data_length))
        (laws.handed mid r at len (number ∙ is_asked.0) (subst (λ o. after o mid) none known)
        (samples, rest, begun, there, long))
    goes_on mid r over (Shorten at) (inl (inr (inl (k, waiting, _, is, none)))) known goes =
        absurd (false≢true (cut_phase mid r at (Requested k) false (phase_of mid asked is ∙ waiting)
        (rest_of mid asked is ∙ is_asked.2) goes))
    goes_on mid r over (Perform effect) (inl (inr (inr (inl (k, waiting, is, none))))) known goes =
        absurd (effect_phase mid r effect (Writing k) (phase_of mid _ is) goes)
    goes_on mid r over (WriteBlock at len) (inl (inr (inr (inl (k, waiting, is, none))))) known
        (samples, rest, begun, there, long) =
        let number : mid.number ≡ asked.number = ap (λ (x : Recorder). x.number) is in
        let (one, this) = as_handed mid r k samples is begun in
        handed_on mid r k at len waiting this (there ∙ ap end_place is)
        (long ∙ (λ i. one i - (is i).data_length))
        (laws.handed mid r at len (number ∙ is_asked.0) (subst (λ o. after o mid) none known)
        (samples, rest, begun, there, long))
    goes_on mid r over (Shorten at) (inl (inr (inr (inl (k, waiting, is, none))))) known goes =
        absurd (false≢true (cut_phase mid r at (Writing k) false (phase_of mid _ is) (rest_of mid _ is ∙ is_asked.2)
        goes))
    goes_on mid r over (Shorten at) (inl (inr (inr (inr (k, waiting, is, lost))))) known (cuts, same, place) =
        rw same (over, (λ _. inr (inr (inr (k, waiting, is, lost)))), known, (cuts, refl, place))
    goes_on mid r over (Perform effect) (inl (inr (inr (inr (k, waiting, is, lost))))) known goes =
        absurd (effect_phase mid r effect Cleaning (phase_of mid _ is) goes)
    goes_on mid r over (WriteBlock at len) (inl (inr (inr (inr (k, waiting, is, lost))))) known goes =
        absurd (block_phase mid r at len Cleaning (phase_of mid _ is) goes)
    goes_on mid r over (Perform effect) (inr (k, waiting, is, ok)) known goes =
        absurd (effect_phase mid r effect Idle (phase_of mid _ is) goes)
    goes_on mid r over (WriteBlock at len) (inr (k, waiting, is, ok)) known goes =
        absurd (block_phase mid r at len Idle (phase_of mid _ is) goes)
    goes_on mid r over (Shorten at) (inr (k, waiting, is, ok)) known goes =
        absurd (false≢true (cut_phase mid r at Idle mid.has_rest (phase_of mid _ is) refl goes))

    -- all of it is done
    pub finished : (mid r : Recorder) (over : Option Bool) → IsSettled asked mid over → after over mid
        → GoesOn mid r (Ok None) → (r ≡ once_done asked) × after (Some true) r
    finished mid r over (inl (inl (saving, is, none))) known (inl (rests, same)) =
        let this = phase_of mid _ is ∙ saving in cc (this, rests)
    finished mid r over (inl (inl (saving, is, none))) known (inr (busy, rest, done, same)) = (
      same ∙ (λ i. record (is i) { number = 0; health = Sound; phase = Idle })
          ∙ (λ i. record asked {
            data_length = length_after (sym saving i) asked;
            number = 0;
            health = Sound;
            phase =
                Idle;
          }),
      laws.saved mid r saving busy (subst (λ o. after o mid) none known) (inr (busy, rest, done, same)),
    )
    finished mid r over (inl (inr (inl (k, waiting, _, is, none)))) known (inl (rests, same)) =
        let this = phase_of mid asked is ∙ waiting in cc (this, rests)
    finished mid r over (inl (inr (inl (k, waiting, _, is, none)))) known (inr (busy, _, _, _)) =
        let this = phase_of mid asked is ∙ waiting in cc (this, busy)
    finished mid r over (inl (inr (inr (inl (k, waiting, is, none))))) known (inl (rests, same)) =
        let this = phase_of mid _ is in cc (this, rests)
    finished mid r over (inl (inr (inr (inl (k, waiting, is, none))))) known (inr (busy, _, _, _)) =
        let this = phase_of mid _ is in cc (this, busy)
    finished mid r over (inl (inr (inr (inr (k, waiting, is, lost))))) known (inl (rests, same)) =
        let this = phase_of mid _ is in cc (this, rests)
    finished mid r over (inl (inr (inr (inr (k, waiting, is, lost))))) known (inr (busy, _, _, _)) =
        let this = phase_of mid _ is in cc (this, busy)
    finished mid r over (inr (k, waiting, is, ok)) known (inl (rests, same)) =
        (same ∙ is, subst (λ (x : Option Bool × Recorder). after x.0 x.1) (λ i. (ok i, sym same i)) known)
    finished mid r over (inr (k, waiting, is, ok)) known (inr (busy, _, _, _)) =
        let this = phase_of mid _ is in cc (this, busy)

    -- what the call for the next action makes of it
    pub next_some : (r new : Recorder) (over : Option Bool) (action : Action) → IsWithin asked report r over
        → before over r → HasAction report does r → Advances report r new (Ok (Some action))
        → (over : Option Bool) × ((next : Report) → IsWithin asked next new over) × after over new
        × GoesOn new new (Ok (Some action))
    next_some r new over action within known has (mid, outcome, settles, on) =
        by outcome (settled r mid over outcome within known has settles) on
      where
        by : (outcome : Result (Unit {0}) RecorderError) → After r outcome mid
            → ThenGoesOn outcome mid new (Ok (Some action))
            → (over : Option Bool) × ((next : Report) → IsWithin asked next new over) × after over new
            × GoesOn new new (Ok (Some action))
        by (Ok x) k (inr (_, never, _)) = cc
        by (Ok x) (o, where_is, known) (inl (_, on)) = goes_on mid new o action where_is known on
        by (Err error) k (never, _) = cc

    pub next_none : (r new : Recorder) (over : Option Bool) → IsWithin asked report r over → before over r
        → HasAction report does r → Advances report r new (Ok None)
        → (new ≡ once_done asked) × after (Some true) new
    next_none r new over within known has (mid, outcome, settles, on) =
        by outcome (settled r mid over outcome within known has settles) on
      where
        by : (outcome : Result (Unit {0}) RecorderError) → After r outcome mid → ThenGoesOn outcome mid new (Ok None)
            → (new ≡ once_done asked) × after (Some true) new
        by (Ok x) (o, where_is, known) (inl (_, on)) = finished mid new o where_is known on
        by (Ok x) k (inr (_, never, _)) = cc
        by (Err error) k (never, _) = cc

    pub next_err : (r new : Recorder) (over : Option Bool) (error : RecorderError)
        → ((over : Option Bool) (mid : Recorder) → after over mid → IsAlive mid → GoesOn mid new (Err error) → ⊥)
        → IsWithin asked report r over → before over r → HasAction report does r → Advances report r new (Err error)
        → (new.number ≡ 0) × after (Some false) new
    next_err r new over error failed within known has (mid, outcome, settles, on) =
        by outcome (settled r mid over outcome within known has settles) on
      where
        by : (outcome : Result (Unit {0}) RecorderError) → After r outcome mid → ThenGoesOn outcome mid new (Err error)
            → (new.number ≡ 0) × after (Some false) new
        by (Ok x) (o, where_is, known) (inl (low, on)) = absurd (failed o mid known low on)
        by (Ok x) (o, where_is, known) (inr (dead, _, _)) = absurd (settled_low mid o where_is dead)
        by (Err other) (none, known) (is, same) = rw same (none, known)

-- what is known where nothing is said of the medium
pub no_laws : (asked : Recorder) (report : Report) → Laws asked report (λ _ _. ⊤) (λ _ _. ⊤) (λ _. ⊤)
no_laws asked report = record {
  same = λ _ _ _ _. tt;
  performed = λ _ _ _ _ _ _ _ _ _. tt;
  wrote = λ _ _ _ _ _ _ _ _ _ _ _ _ _ _. tt;
  cut = λ _ _ _ _ _ _ _ _ _. tt;
  handed = λ _ _ _ _ _ _ _. tt;
  saved = λ _ _ _ _ _ _. tt;
}

-- what is known of the calls, by whether the one is over that was requested
abbrev pub KnownAt : WavSpecEx → Begun → List Known → Recorder → List ℕ → MediumState → Option Bool → Recorder → Type 0
KnownAt s file known asked block m None r = Directed s file known r m
KnownAt s file known asked block m (Some b) r =
    Directed s file (known ++ marked (asked_as s asked block) b ∷ []) r m

module _ (s : WavSpecEx) (file : Begun) (known : List Known) (asked : Recorder) (block : List ℕ)
    (is_asked : HasRequest asked (length block)) (report : Report) (before : MediumState) (end : Log) where
  abbrev pub Before : Option Bool → Recorder → Type 0
  Before over r = KnownAt s file known asked block before over r

  abbrev pub Now : Option Bool → Recorder → Type 0
  Now over r = KnownAt s file known asked block end.state over r

  abbrev pub Did : Action → Type 0
  Did action = DoesAction action block report before end.state

  long : (k : ℕ) → asked.phase ≡ Requested k → length block ≡ k - asked.data_length
  long k waiting = by is_asked.3
    where
      by : (asked.phase ≡ Saving)
          ⊎ ((asked.phase ≡ Requested (asked.data_length + length block)) × (asked.health ≡ Sound))
          → length block ≡ k - asked.data_length
      by (inl saving) = cc (saving, waiting)
      by (inr (here, _)) = let same = same_waiting (asked.data_length + length block) k (sym here ∙ waiting) in
          omega (arith, same)

  -- the clauses of the law, for what was requested
  pub laws_of : ((old mid new : Recorder) (effect : Effect) (result : Result (Unit {0}) IoFault)
      (outcome : Result (Unit {0}) RecorderError) → Directed s file known old before
      → GoesOn old mid (Ok (Some (Perform effect))) → Performs effect result before end.state
      → HasEnded (is_ok result) mid new outcome → Directed s file (known ++ cut_known outcome) new end.state)
      → ((old new : Recorder) (n : ℕ) (result : Result (Unit {0}) IoFault) (outcome : Result (Unit {0}) RecorderError)
      → Directed s file known old before → old.phase ≡ Writing n → old.has_rest ≡ false
      → length block ≡ n - old.data_length
      → PutsAt true (old.data_start + old.data_length) block result before end.state
      → HasEnded (is_ok result) old new outcome
      → Directed s file (known ++ block_known block (is_ok result) s ∷ []) new end.state)
      → ((known : List Known) (old new : Recorder) (ok : Bool) (outcome : Result (Unit {0}) RecorderError)
      → Directed s file known old before → cuts_next old.phase old.has_rest ≡ true → HasEnded ok old new outcome
      → Directed s file known new before)
      → ((m : MediumState) (old new : Recorder) (place len : ℕ) → Directed s file known old m
      → GoesOn old new (Ok (Some (WriteBlock place len))) → (place ≡ new.data_start + new.data_length)
      × (Directed s file known new m ⊎ ((0 < old.number) × Directed s file (known ++ marked publish true ∷ []) new m)))
      → ((old new : Recorder) → Directed s file known old end.state → old.phase ≡ Saving → GoesOn old new (Ok None)
      → Directed s file (known ++ marked publish true ∷ []) new end.state)
      → (report ≡ Pending → end.state ≡ before)
      → Laws asked report Before Now Did
  laws_of performed wrote cut handed saved still = record {
    same = λ pending over r d. subst (λ m. KnownAt s file known asked block m over r) (sym (still pending)) d;
    performed = λ r mid effect outcome one d goes (result, is, did) settles.
        effect_known outcome mid one (performed r r mid effect result outcome d goes did
        (settles_as (is_ok result) r mid outcome (subst (λ x. Settles x r mid outcome) is settles)));
    wrote = λ b r mid n at len outcome waiting reported d is goes (result, reported_is, did) ended.
        let same : is_ok result ≡ b = one_report (is_ok result) b (sym reported_is ∙ reported) in
        let as_block : Asked = write (whole_containers s block) in
        let asks : as_block ≡ asked_as s asked block = rw waiting refl in
        subst (λ (x : Asked × Bool). Directed s file (known ++ marked x.0 x.1 ∷ []) mid end.state)
        (λ i. (asks i, same i))
        (wrote r mid n result outcome d (phase_of r _ is) (rest_of r _ is ∙ is_asked.2)
        (rw is (long n waiting)) (rw (handed before r r at len d goes).0 at did)
        (subst (λ b. HasEnded b r mid outcome) (sym same) ended));
    cut = λ b r mid at outcome d rest same ended.
        subst (λ m. Directed s file (known ++ marked (asked_as s asked block) false ∷ []) mid m) (sym same)
        (cut (known ++ marked (asked_as s asked block) false ∷ []) r mid b outcome d rest ended);
    handed = λ mid r at len none d goes. only mid r none (handed end.state mid r at len d goes).1;
    saved = λ mid r one task d goes. subst (λ x. Directed s file (known ++ marked x true ∷ []) r end.state)
        (publishes one) (saved mid r d task goes);
  }
    where
      publishes : asked.phase ≡ Saving → publish ≡ asked_as s asked block
      publishes one = rw one refl

      effect_known : (outcome : Result (Unit {0}) RecorderError) (mid : Recorder) → asked.phase ≡ Saving
          → Directed s file (known ++ cut_known outcome) mid end.state → Now (reported_as outcome) mid
      effect_known (Ok x) mid one d = rw append-nil at d
      effect_known (Err error) mid one d =
          subst (λ x. Directed s file (known ++ marked x false ∷ []) mid end.state) (publishes one) d

      one_report : (a b : Bool) → report_for a ≡ report_for b → a ≡ b
      one_report true true is = refl
      one_report false false is = refl
      one_report true false is = cc
      one_report false true is = cc

      only : (mid r : Recorder) → mid.number ≡ 0 → Directed s file known r end.state
          ⊎ ((0 < mid.number) × Directed s file (known ++ marked publish true ∷ []) r end.state)
          → Directed s file known r end.state
      only mid r none (inl d) = d
      only mid r none (inr (some, _)) = absurd (omega (arith, none, some))

  -- no error comes of what is to do
  pub not_failed : ((known : List Known) (old new : Recorder) (error : RecorderError)
      → Directed s file known old end.state
      → IsAlive old → GoesOn old new (Err error) → ⊥)
      → (new : Recorder) (error : RecorderError) (over : Option Bool) (mid : Recorder) → Now over mid
      → IsAlive mid → GoesOn mid new (Err error) → ⊥
  not_failed failed new error None mid d low goes = failed known mid new error d low goes
  not_failed failed new error (Some b) mid d low goes =
      failed (known ++ marked (asked_as s asked block) b ∷ []) mid new error d low goes
