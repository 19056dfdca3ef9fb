-- Requests of a repair that a caller performs.
use Rattle.std.proofs.Common.{◌≡◌, ◌⊎◌, ℕ, ◌+◌, ◌-◌, ◌*◌, ◌<◌, arith, Bool, false, List, ◌∷◌, Ok, Err, inl, inr, refl, sym, ap, ◌∙◌, subst}
use Rattle.hound.specs.{Action, AsksNext, DoesFor, FailedAction, IsRequest, IsPartlyRepaired, IsRejectedFor, IsUnderRepair, MediumState, PutsNothing, RepairError, Repairing, Report, Task, Unrepairable, one_more}
use Rattle.hound.specs.declared.Action.TheVariants.{Perform, Read, Shorten, WriteBlock}
use Rattle.hound.specs.declared.RepairError.TheVariants as errors
use Rattle.hound.specs.declared.RepairStep.TheVariants.{Asks}
use Rattle.hound.specs.declared.Repairing.TheVariants as states
use Rattle.hound.specs.declared.Report.TheVariants.{Done, Failed, Pending}
use Rattle.hound_callers.proofs.Driving.{step_of}
use Rattle.hound_callers.specs.Recorder.{AreAllKept}
use Rattle.hound_callers.specs.Repairer.{IsNotRepairedBy, faults_by}

-- a report that is lost says nothing
pub lost_report : (keeps : Bool) (action : Action) (bytes : List ℕ) (report : Report) (old new : MediumState)
    → DoesFor keeps action bytes report old new → DoesFor keeps action bytes Pending old new
lost_report keeps (Read place count) bytes Pending old new did = did
lost_report keeps (Read place count) bytes Done old new (read, did) = did
lost_report keeps (Read place count) bytes Failed old new did = did
lost_report keeps (Perform effect) bytes Pending old new did = did
lost_report keeps (Perform effect) bytes Done old new did = inr (Ok tt, did)
lost_report keeps (Perform effect) bytes Failed old new (fault, did) = inr (Err fault, did)
lost_report keeps (WriteBlock place count) bytes report old new never = absurd never
lost_report keeps (Shorten place) bytes report old new never = absurd never

-- without a failure there is no fault
pub no_fault : (report : Report) (faults : ℕ) → (report ≡ Failed → ⊥) → faults_by report faults ≡ faults
no_fault Pending faults not = refl
no_fault Done faults not = refl
no_fault Failed faults not = absurd (not refl)

pub one_fault : (report : Report) (faults : ℕ) → report ≡ Failed → faults_by report faults ≡ one_more faults
one_fault report faults is = subst (λ r. faults_by r faults ≡ one_more faults) (sym is) refl

-- of the reports those after the first
pub reported_rest : (lost rest : List Bool) (one : Bool) → lost ≡ one ∷ rest → AreAllKept lost
    → (one ≡ false) × AreAllKept rest
reported_rest lost rest one is all = subst AreAllKept is all

-- once a request is performed and reported, fewer are left, or as many and a report of the last one
pub fewer_left : (was next : Report) (before after lost : ℕ) → (was ≡ Done → after < before)
    → (was ≡ Pending → after ≡ before) → (was ≡ Failed → ⊥) → (next ≡ Pending → ⊥)
    → 2 * after + (1 - step_of next) + 2 * lost < 2 * before + (1 - step_of was) + 2 * lost
fewer_left was Pending before after lost fewer same never said = absurd (said refl)
fewer_left Done Done before after lost fewer same never said = omega (arith, fewer refl)
fewer_left Done Failed before after lost fewer same never said = omega (arith, fewer refl)
fewer_left Pending Done before after lost fewer same never said = omega (arith, same refl)
fewer_left Pending Failed before after lost fewer same never said = omega (arith, same refl)
fewer_left Failed next before after lost fewer same never said = absurd (never refl)

-- a repair that has failed requests nothing
failed_asks : (task : Task) (n : ℕ) (old mid : MediumState) (was : Repairing) (action : Action) (failure : FailedAction)
    → was ≡ states.Failed failure → IsUnderRepair task n old was (Ok (Asks action)) mid → ⊥
failed_asks task n old mid was action failure is under =
    subst (λ s. IsUnderRepair task n old s (Ok (Asks action)) mid) is under

-- a file isn't repaired
pub not_repaired : (task : Task) (n : ℕ) (old mid new : MediumState) (was next : Repairing) (action : Action)
    (report : Report) (lost : List Bool) (error : RepairError)
    → ((why : Unrepairable) → IsUnderRepair task n old next (Err (errors.Rejected why)) new
    → IsRejectedFor old.contents why × PutsNothing old new)
    → ((failure : FailedAction) → IsUnderRepair task n old next (Err (errors.Failed failure)) new
    → IsPartlyRepaired task old new)
    → ((failure : FailedAction) → error ≡ errors.Failed failure → (report ≡ Failed) ⊎ (was ≡ states.Failed failure))
    → IsUnderRepair task n old was (Ok (Asks action)) mid → IsUnderRepair task n old next (Err error) new
    → (AreAllKept lost → new.faults ≡ faults_by report old.faults) → IsNotRepairedBy task lost error old new
not_repaired task n old mid new was next action report lost (errors.Rejected why) rejects fails only under is faults =
    rejects why is
not_repaired task n old mid new was next action report lost (errors.Failed failure) rejects fails only under is faults =
    (fails failure is, λ reported. faults reported ∙ by (only failure refl))
  where
    by : (report ≡ Failed) ⊎ (was ≡ states.Failed failure) → faults_by report old.faults ≡ one_more old.faults
    by (inl failed) = one_fault report old.faults failed
    by (inr ended) = absurd (failed_asks task n old mid was action failure ended under)

-- from one request to the next
pub goes_on : (keeps : Bool) (task : Task) (n : ℕ) (old now new : MediumState) (was next : Repairing) (action : Action)
    (report result : Report) (bytes read : List ℕ)
    → ((mid : MediumState) (before : Action) → IsUnderRepair task n old was (Ok (Asks before)) mid
    → DoesFor keeps before bytes report mid now → AsksNext task n bytes report was next (Ok (Asks action))
    → IsUnderRepair task n old next (Ok (Asks action)) now)
    → (IsUnderRepair task n old next (Ok (Asks action)) now → IsRequest action) → (report ≡ Failed → ⊥)
    → (IsRequest action → DoesFor keeps action read result now new)
    → (IsRequest action → new.faults ≡ faults_by result now.faults)
    → AsksNext task n bytes report was next (Ok (Asks action))
    → ((mid : MediumState) × (before : Action) × IsUnderRepair task n old was (Ok (Asks before)) mid
    × DoesFor keeps before bytes report mid now)
    → IsUnderRepair task n old next (Ok (Asks action)) now × DoesFor keeps action read result now new
    × (now.faults ≡ faults_by report old.faults → new.faults ≡ faults_by result old.faults)
goes_on keeps task n old now new was next action report result bytes read goes requests not does faults asks
    (mid, before, under, did) =
    let is = goes mid before under did asks in
    let request = requests is in (
      is,
      does request,
      λ counts. faults request ∙ ap (faults_by result) (counts ∙ no_fault report old.faults not),
    )
