-- What a loop does that performs one action after the other, if none of them fails, and how it fails else.
use Rattle.std.proofs.lemmas.Grind.{common_steps}
use Rattle.std.proofs.lemmas.Bool.{false≢true}
use Rattle.std.proofs.Common.{List, [], ◌∷◌, length, get_or, ◌*◌, ◌≡◌, ◌⊎◌, ◌<◌, ◌≤◌, ◌+◌, ℕ, zero, suc, Bool, true, false, inl, inr, Option, None, Some, Result, Ok, Err, refl, sym, ◌∙◌, ap, subst, take, drop, drop-cons, arith}
use Rattle.std.specs.Prelude.{⊤, IsErrAnd, slice_index_or}
use Rattle.std.specs.Borrow.{Bor}
use Rattle.std.specs.List.{AllByRecursion}
use Rattle.hound.specs.{Action, Advances, BeginsBlock, CannotSave, Effect, EndsEffect, GoesOn, HasData, HasEnded, IsAlive, MediumState, NoFault, Phase, Recorder, RecorderError, Report, Settles, TakesBlock, ThenGoesOn, error_for, given_up, health_after, length_with}
use Rattle.hound.specs.declared.Action.TheVariants.{Shorten, Perform, Read, WriteBlock}
use Rattle.hound.specs.declared.Health.{Health}
use Rattle.hound.specs.declared.Health.TheVariants.{Sound}
use Rattle.hound.specs.declared.Phase.TheVariants.{Idle, Saving, Requested, Writing, Cleaning}
use Rattle.hound.specs.declared.Report.TheVariants.{Done, Failed, Pending}
use Rattle.hound.specs.declared.RecorderError.TheVariants.{
  NotWritable,
  UnfinishedFrame,
  TooLong,
  Truncated,
  NeedsMend,
  NeedsOverwrite,
  NeedsCheckpoint,
  SyncFailed,
}
use Rattle.hound.proofs.Recorders.{not_done}
use Rattle.hound_callers.specs.Recorder.{
  CountsFaults,
  HasRequest,
  IsFailure,
  IsFull,
  IsBlockRejected,
  IsPerformable,
  TakesNoMore,
  once_done,
  once_mended,
  report_for,
  total_length,
}
use Rattle.hound_callers.proofs.Driving.{IsWithin, Laws, can, cut_phase, effect_phase, reported_as}

-- what is known of a recorder if nothing fails, by whether the call is over
abbrev pub FaultlessAt : Option Bool → Recorder → Type 0
FaultlessAt None r = HasData r r.data_length
FaultlessAt (Some true) r = r.phase ≡ Idle
FaultlessAt (Some false) r = ⊥

-- an effect that was next is done
effect_done : (r mid : Recorder) (effect : Effect) (outcome : Result (Unit {0}) RecorderError)
    → GoesOn r r (Ok (Some (Perform effect))) → HasEnded true r mid outcome
    → (mid ≡ record r { number = r.number + 1 }) × (outcome ≡ Ok tt)
effect_done r mid effect outcome goes (inl (idle, _, _)) = absurd (effect_phase r r effect Idle idle goes)
effect_done r mid effect outcome goes (inr (inl (cleaning, _, _))) = absurd (effect_phase r r effect Cleaning cleaning
    goes)
effect_done r mid effect outcome ((rest, how), next, same) (inr (inr (inl (_, _, cuts, _, _)))) =
    absurd (false≢true (sym rest ∙ cuts))
effect_done r mid effect outcome goes (inr (inr (inr (inl (n, writing, _, _, _))))) =
    absurd (effect_phase r r effect (Writing n) writing goes)
effect_done r mid effect outcome goes (inr (inr (inr (inr (_, _, inl (other, _, done)))))) = done
effect_done r mid effect outcome (saving, next, same) (inr (inr (inr (inr (_, _, inr (inl (none, _, _))))))) =
    absurd (not_done r effect next none)
effect_done r mid effect outcome (saving, next, same) (inr (inr (inr (inr (_, _, inr (inr (error, cannot, _, _))))))) =
    absurd (can r error next.0 cannot)

-- a block is written
block_done : (asked r mid : Recorder) (n : ℕ) (outcome : Result (Unit {0}) RecorderError)
    → r ≡ record asked { phase = Writing n } → asked.has_rest ≡ false → HasEnded true r mid outcome → mid.phase ≡ Idle
block_done asked r mid n outcome is rest ended = by (ap (λ (x : Recorder). x.phase) is) ended
  where
    by : r.phase ≡ Writing n → HasEnded true r mid outcome → mid.phase ≡ Idle
    by writing (inl (idle, _, _)) = cc (writing, idle)
    by writing (inr (inl (cleaning, _, _))) = cc (writing, cleaning)
    by writing (inr (inr (inl (_, _, cuts, _, _)))) =
        absurd (false≢true (sym (ap (λ (x : Recorder). x.has_rest) is ∙ rest) ∙ cuts))
    by writing (inr (inr (inr (inl (k, _, _, now, _))))) = ap (λ (x : Recorder). x.phase) now
    by writing (inr (inr (inr (inr (may, _, _))))) = absurd (rw writing at may)

-- the data stay while a block is begun
begun_data : (n : ℕ) (old new : Recorder) → BeginsBlock n old new → HasData old old.data_length
    → HasData new new.data_length
begun_data n old new (inl (writing, is)) has = subst (λ (r : Recorder). HasData r r.data_length) (sym is) has
begun_data n old new (inr (waiting, due, is)) has = subst (λ (r : Recorder). HasData r r.data_length) (sym is) has

pub faultless_laws : (asked : Recorder) (n : ℕ) (report : Report) → HasRequest asked n → (report ≡ Failed → ⊥)
    → Laws asked report FaultlessAt FaultlessAt (λ _. ⊤)
faultless_laws asked n report is_asked fine = record {
  same = λ pending over r known. known;
  performed = λ r mid effect outcome saving known goes did settles. performed report fine r mid effect outcome known
      goes
      settles;
  wrote = λ b r mid k at len outcome waiting reported known is goes did ended.
      wrote b reported r mid k outcome is ended;
  cut = λ b r mid at outcome never rest did ended. absurd never;
  handed = λ mid r at len none known (k, rest, begun, _, _). begun_data k mid r begun known;
  saved = λ mid r saving busy known goes. saved mid r busy goes;
}
  where
    performed : (report : Report) → (report ≡ Failed → ⊥) → (r mid : Recorder) (effect : Effect)
        (outcome : Result (Unit {0}) RecorderError) → HasData r r.data_length → GoesOn r r (Ok (Some (Perform effect)))
        → Settles report r mid outcome → FaultlessAt (reported_as outcome) mid
    performed Pending fine r mid effect outcome has goes (same, ok) =
        rw ok (subst (λ (r : Recorder). HasData r r.data_length) (sym same) has)
    performed Failed fine r mid effect outcome has goes settles = absurd (fine refl)
    performed Done fine r mid effect outcome has goes settles =
        let (is, ok) = effect_done r mid effect outcome goes settles in
        rw ok (subst (λ (r : Recorder). HasData r r.data_length) (sym is) has)

    wrote : (b : Bool) → report ≡ report_for b → (r mid : Recorder) (k : ℕ) (outcome : Result (Unit {0}) RecorderError)
        → r ≡ record asked { phase = Writing k } → HasEnded b r mid outcome → FaultlessAt (Some b) mid
    wrote true reported r mid k outcome is ended = block_done asked r mid k outcome is is_asked.2 ended
    wrote false reported r mid k outcome is ended = absurd (fine reported)

    saved : (mid r : Recorder) → mid.phase ≡ Saving → GoesOn mid r (Ok None) → r.phase ≡ Idle
    saved mid r busy (inl (idle, _)) = cc (busy, idle)
    saved mid r busy (inr (_, _, _, is)) = ap (λ (x : Recorder). x.phase) is

-- no error comes of what is to do
pub faultless_not_failed : (new : Recorder) (error : RecorderError) (over : Option Bool) (mid : Recorder)
    → FaultlessAt over mid → IsAlive mid → GoesOn mid new (Err error) → ⊥
faultless_not_failed new error None mid has low (saving, cannot, is) = can mid error (low, has) cannot
faultless_not_failed new error (Some true) mid idle low ((rest, inl saving), _, _) = cc (idle, saving)
faultless_not_failed new error (Some true) mid idle low ((rest, inr (k, waiting, _)), _, _) = cc (idle, waiting)
faultless_not_failed new error (Some false) mid never low goes = never

-- the errors of what fails
failure_of_health : (health : Health) → IsFailure (error_for health)
failure_of_health health = grind (arith, common_steps)

cannot_fails : (r : Recorder) (error : RecorderError) → HasData r r.data_length → CannotSave r error → IsFailure error
cannot_fails r SyncFailed has dead = tt
cannot_fails r NeedsCheckpoint has given = tt
cannot_fails r NotWritable has (low, never) = absurd (can r NotWritable (low, has) (low, never))
cannot_fails r TooLong has (low, never) = absurd (can r TooLong (low, has) (low, never))
cannot_fails r UnfinishedFrame has (low, never) = absurd never
cannot_fails r Truncated has (low, never) = absurd never
cannot_fails r NeedsMend has (low, never) = absurd never
cannot_fails r NeedsOverwrite has (low, never) = absurd never

-- what a report leads to: an error of what failed, or a recorder with the data from before, or one that has nothing to
-- do
abbrev SettlesTo : Result (Unit {0}) RecorderError → Recorder → Type 0
SettlesTo (Ok x) mid = HasData mid mid.data_length ⊎ (mid.phase ≡ Idle)
SettlesTo (Err error) mid = IsFailure error

same_data : (r mid : Recorder) → HasData r r.data_length → mid ≡ r → HasData mid mid.data_length
same_data r mid has is = subst (λ (r : Recorder). HasData r r.data_length) (sym is) has

ends_to : (ok : Bool) (r mid : Recorder) (outcome : Result (Unit {0}) RecorderError) → HasData r r.data_length
    → EndsEffect ok r mid outcome → SettlesTo outcome mid
ends_to true r mid outcome has (inl (effect, next, (is, result))) =
    rw result (inl (subst (λ (r : Recorder). HasData r r.data_length) (sym is) has))
ends_to false r mid outcome has (inl (effect, next, (is, result))) = rw result (failure_of_health (health_after effect))
ends_to ok r mid outcome has (inr (inl (none, is, result))) = rw result (inl (same_data r mid has is))
ends_to ok r mid outcome has (inr (inr (error, cannot, is, result))) = rw result (cannot_fails r error has cannot)

ended_to : (ok : Bool) (r mid : Recorder) (outcome : Result (Unit {0}) RecorderError) → HasData r r.data_length
    → HasEnded ok r mid outcome → SettlesTo outcome mid
ended_to ok r mid outcome has (inl (idle, is, result)) = rw result (inl (same_data r mid has is))
ended_to ok r mid outcome has (inr (inl (cleaning, is, result))) = rw result (failure_of_health r.health)
ended_to ok r mid outcome has (inr (inr (inl (_, _, cuts, is, result)))) =
    rw result (inl (subst (λ (r : Recorder). HasData r r.data_length) (sym is) has))
ended_to true r mid outcome has (inr (inr (inr (inl (n, _, _, is, result))))) =
    rw result (inr (ap (λ (x : Recorder). x.phase) is))
ended_to false r mid outcome has (inr (inr (inr (inl (n, _, _, is, result))))) =
    rw result (inl (subst (λ (r : Recorder). HasData r r.data_length) (sym is) has))
ended_to ok r mid outcome has (inr (inr (inr (inr (_, _, ends))))) = ends_to ok r mid outcome has ends

settles_to : (report : Report) (r mid : Recorder) (outcome : Result (Unit {0}) RecorderError) → HasData r r.data_length
    → Settles report r mid outcome → SettlesTo outcome mid
settles_to Pending r mid outcome has (is, result) = rw result (inl (same_data r mid has is))
settles_to Done r mid outcome has ended = ended_to true r mid outcome has ended
settles_to Failed r mid outcome has ended = ended_to false r mid outcome has ended

pub fails_as : (report : Report) (r new : Recorder) (error : RecorderError) → HasData r r.data_length
    → Advances report r new (Err error) → IsFailure error
fails_as report r new error has (mid, outcome, settles, on) =
    by outcome (settles_to report r mid outcome has settles) on
  where
    by : (outcome : Result (Unit {0}) RecorderError) → SettlesTo outcome mid → ThenGoesOn outcome mid new (Err error)
        → IsFailure error
    by (Ok x) (inl has_data) (inl (low, (saving, cannot, is))) = cannot_fails mid error has_data cannot
    by (Ok x) (inr idle) (inl (low, ((rest, inl saving), _, _))) = cc (idle, saving)
    by (Ok x) (inr idle) (inl (low, ((rest, inr (k, waiting, _)), _, _))) = cc (idle, waiting)
    by (Ok x) to (inr (dead, is, same)) = let this : error ≡ SyncFailed = cc is in rw this tt
    by (Err other) failed (is, same) = let this : other ≡ error = cc is in subst IsFailure this failed

-- within the loop the data are those that were requested to be saved
pub within_data : (asked r : Recorder) (report : Report) (over : Option Bool) → IsWithin asked report r over
    → HasData asked asked.data_length → HasData r r.data_length
within_data asked r report over (inl (saving, is, _)) has =
    subst (λ (r : Recorder). HasData r r.data_length) (sym is) has
within_data asked r report over (inr (inl (n, waiting, _, is, _))) has = same_data asked r has is
within_data asked r report over (inr (inr (inl (n, waiting, is, _)))) has =
    subst (λ (r : Recorder). HasData r r.data_length) (sym is) has
within_data asked r report over (inr (inr (inr (n, waiting, is, _)))) has =
    subst (λ (r : Recorder). HasData r r.data_length) (sym is) has

-- what is next is performed by a medium, as long as nothing has failed
pub is_performable : (asked r : Recorder) (n : ℕ) (report : Report) (over : Option Bool) (action : Action)
    → HasRequest asked n → IsWithin asked report r over → FaultlessAt over r → GoesOn r r (Ok (Some action))
    → IsPerformable action
is_performable asked r n report over (Perform effect) is_asked within known goes = tt
is_performable asked r n report over (WriteBlock at len) is_asked within known goes = tt
is_performable asked r n report over (Read at len) is_asked within known goes = absurd goes
is_performable asked r n report over (Shorten at) is_asked (inl (saving, is, _)) known goes =
    absurd (false≢true (cut_phase r r at Saving false (ap (λ (x : Recorder). x.phase) is ∙ saving)
    (ap (λ (x : Recorder). x.has_rest) is ∙ is_asked.2) goes))
is_performable asked r n report over (Shorten at) is_asked (inr (inl (k, waiting, _, is, _))) known goes =
    absurd (false≢true (cut_phase r r at (Requested k) false (ap (λ (x : Recorder). x.phase) is ∙ waiting)
    (ap (λ (x : Recorder). x.has_rest) is ∙ is_asked.2) goes))
is_performable asked r n report over (Shorten at) is_asked (inr (inr (inl (k, waiting, is, _)))) known goes =
    absurd (false≢true (cut_phase r r at (Writing k) false (ap (λ (x : Recorder). x.phase) is)
    (ap (λ (x : Recorder). x.has_rest) is ∙ is_asked.2) goes))
is_performable asked r n report over (Shorten at) is_asked (inr (inr (inr (k, waiting, is, lost)))) known goes =
    absurd (subst (λ o. FaultlessAt o r) lost known)

-- where none of two calls failed, neither of them did
pub no_fault_before : (a b c : MediumState) → CountsFaults a b → CountsFaults b c → NoFault a c → NoFault a b
no_fault_before a b c one two (same, low) =
    let (up, most) = one (omega (arith, low)) in
    let (more, _) = two most in
    (omega (arith, up, more, same), low)

pub no_fault_after : (a b c : MediumState) → CountsFaults a b → CountsFaults b c → NoFault a c → NoFault b c
no_fault_after a b c one two (same, low) =
    let (up, most) = one (omega (arith, low)) in
    let (more, _) = two most in
    (omega (arith, up, more, same), omega (arith, low, up, more, same))

pub faults_add : (a b c : MediumState) → CountsFaults a b → CountsFaults b c → CountsFaults a c
faults_add a b c one two least =
    let (up, most) = one least in
    let (more, end) = two most in
    (omega (arith, up, more), end)

-- where no report is lost, the next one isn't
pub kept_next : (lost : List Bool) (n : ℕ) {is_lost : Bool} → is_lost ≡ slice_index_or lost n false
    → AllByRecursion (λ b. b ≡ false) lost → is_lost ≡ false
kept_next lost n is all = is ∙ by lost n all
  where
    by : (lost : List Bool) (n : ℕ) → AllByRecursion (λ b. b ≡ false) lost → slice_index_or lost n false ≡ false
    by [] n all = refl
    by (b ∷ lost) zero all = all.0
    by (b ∷ lost) (suc n) all = by lost n all.1

-- the error that `?` returns
pub is_error : {T E : Type 0} (r : Result T E) (e : E) → IsErrAnd r (λ d. d ≡ e) → r ≡ Err e
is_error r e is = grind (arith, common_steps)

-- one block more
total_next : (blocks : List (Bor (List ℕ))) (i : ℕ) (d : Bor (List ℕ)) → i < length blocks
    → total_length (take (suc i) blocks) ≡ total_length (take i blocks) + length (get_or blocks i d).now
total_next [] i d less = absurd (omega (arith, less))
total_next (block ∷ blocks) zero d less = omega arith
total_next (block ∷ blocks) (suc i) d less =
    let rest = total_next blocks i d (omega (arith, less)) in omega (arith, rest)

pub total_more : (blocks : List (Bor (List ℕ))) (i : ℕ) (d : Bor (List ℕ)) → i < length blocks
    → total_length (take (i + 1) blocks) ≡ total_length (take i blocks) + length (get_or blocks i d).now
total_more blocks i d less =
    let one : suc i ≡ i + 1 = omega arith in rw one at (total_next blocks i d less)

-- what has room has it with less
pub fewer_data : (r : Recorder) (few more : ℕ) → few ≤ more → HasData r more → HasData r few
fewer_data r few more less has = grind (arith, common_steps)

-- the recorder once a block was written and a checkpoint made
pub saved_as : (old end asked mid last saving new : Recorder) (samples n : ℕ) → end ≡ record old { phase = Idle }
    → asked ≡ record end { phase = Requested (length_with end samples) } → mid ≡ once_done asked
    → last ≡ given_up mid.phase mid → saving ≡ record last { phase = Saving } → new ≡ once_done saving
    → old.number ≡ 0 → old.health ≡ Sound → n ≡ samples * old.bytes_per_sample
    → new ≡ record old { data_length = old.data_length + n; phase = Idle }
saved_as old end asked mid last saving new samples n is_end is_asked is_mid is_last is_saving is_new none sound long =
    let written : mid ≡ record old {
      data_length = old.data_length + samples * old.bytes_per_sample;
      number = 0;
      health = Sound;
      phase = Idle;
    } = is_mid ∙ ap once_done (is_asked
    ∙ ap (λ (end : Recorder). record end { phase = Requested (length_with end samples) }) is_end) in
    let given : last ≡ record mid { phase = Idle } = is_last ∙ ap (λ phase. given_up phase mid)
    (ap (λ (x : Recorder). x.phase) written) in
    is_new ∙ ap once_done (is_saving ∙ ap (λ (last : Recorder). record last { phase = Saving }) (given
    ∙ ap (λ (mid : Recorder). record mid { phase = Idle }) written))
    ∙ (λ i. record old {
      data_length = old.data_length + sym long i;
      number = sym none i;
      health = sym sound i;
      phase = Idle;
    })

-- a block that was taken has room, and so have the data before it
pub asked_data : (old end asked : Recorder) (samples : ℕ) → TakesBlock samples old.phase end asked (Ok tt)
    → HasData asked asked.data_length
asked_data old end asked samples (_, _, _, room, is) =
    subst (λ (r : Recorder). HasData r r.data_length) (sym is)
    (fewer_data end end.data_length (length_with end samples) (omega arith) room)

pub saving_data : (phase : Phase) (end asked mid last saving : Recorder) (samples : ℕ)
    → TakesBlock samples phase end asked (Ok tt) → mid ≡ once_done asked → last ≡ given_up mid.phase mid
    → saving ≡ record last { phase = Saving } → HasData saving saving.data_length
saving_data phase end asked mid last saving samples (_, _, _, room, is) is_mid is_last is_saving =
    let written : mid ≡ record end { data_length = length_with end samples; number = 0; health = Sound; phase = Idle } =
    is_mid ∙ ap once_done is in
    let given : last ≡ record mid { phase = Idle } = is_last ∙ ap (λ phase. given_up phase mid)
    (ap (λ (x : Recorder). x.phase) written) in
    subst (λ (r : Recorder). HasData r r.data_length) (sym (is_saving
    ∙ ap (λ (last : Recorder). record last { phase = Saving }) (given
    ∙ ap (λ (mid : Recorder). record mid { phase = Idle }) written))) room

-- the recorder after some blocks, but for what is under way
abbrev HasGrown : Recorder → Recorder → List (Bor (List ℕ)) → ℕ → Type 0
HasGrown first r blocks i = record r { phase = Idle }
    ≡ record first { data_length = first.data_length + total_length (take i blocks); phase = Idle }

pub grown_more : (first r new : Recorder) (blocks : List (Bor (List ℕ))) (i : ℕ) (d : Bor (List ℕ)) → i < length blocks
    → HasGrown first r blocks i
    → new ≡ record r { data_length = r.data_length + length (get_or blocks i d).now; phase = Idle }
    → HasGrown first new blocks (i + 1)
grown_more first r new blocks i d less grown is =
    let more = total_more blocks i d less in
    let long : first.data_length + total_length (take i blocks) + length (get_or blocks i d).now
    ≡ first.data_length + total_length (take (i + 1) blocks) = omega (arith, more) in
    ap (λ (r : Recorder). record r { phase = Idle }) is
    ∙ ap (λ (x : Recorder). record x { data_length = x.data_length + length (get_or blocks i d).now }) grown
    ∙ (λ j. record first { data_length = long j; phase = Idle })

-- what a recorder rejects doesn't hang on what is under way
pub takes_no_more : (first r : Recorder) (blocks : List (Bor (List ℕ))) (i : ℕ) (d : Bor (List ℕ)) → i < length blocks
    → HasGrown first r blocks i → IsBlockRejected r (get_or blocks i d) → IsFull first blocks i
takes_no_more first r blocks i d less grown rejected =
    rw (drop-cons blocks i d less) (subst (λ (r : Recorder). IsBlockRejected r (get_or blocks i d)) grown rejected)

pub takes_none : (first : Recorder) (blocks : List (Bor (List ℕ))) (n : ℕ) → length blocks ≤ n → IsFull first blocks n
takes_none first blocks n all = let none : drop n blocks ≡ [] = grind (arith, common_steps) in rw none tt

-- a recorder takes as much once its file is mended
pub full_as : (r new : Recorder) (blocks : List (Bor (List ℕ))) (n : ℕ) → new ≡ once_mended r → IsFull new blocks n
    → IsFull r blocks n
full_as r new blocks n is full = by (drop n blocks) (subst (λ new. IsFull new blocks n) is full)
  where
    by : (left : List (Bor (List ℕ)))
        → TakesNoMore (record (once_mended r) { data_length = r.data_length + total_length (take n blocks) }) left
        → TakesNoMore (record r { data_length = r.data_length + total_length (take n blocks) }) left
    by [] given = given
    by (block ∷ left) given = given
