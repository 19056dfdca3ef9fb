-- What becomes of a file whose repair is driven by a caller.
use Rattle.std.proofs.lemmas.Grind.{common_steps}
use Rattle.std.proofs.Common.{◌≡◌, ℕ, max, ◌+◌, ◌≤◌, ◌<◌, ◌^◌, Bool, true, false, not, List, [], ◌∷◌, zero, suc, length, take, drop, inl, inr, None, Some, Result, Ok, Err, refl, sym, ap, ◌∙◌, subst, arith}
use Rattle.std.specs.Prelude.{⊤}
use Rattle.std.specs.declared.io.Error.{Error as IoFault}
use Rattle.hound_number.specs.{AreBytes, bytes_of}
use Rattle.hound_spec.specs.{riff_size}
use Rattle.hound_medium.specs.{MediumState, overlay, placed}
use Rattle.hound_walk.proofs.Unique.{head_no_fault, heads_agree}
use Rattle.hound_writer.specs.{AppendFault, PutsNothing, nth}
use Rattle.hound_writer.specs.declared.effects.Action.{Action}
use Rattle.hound_writer.specs.declared.effects.Action.TheVariants.{Perform, Read}
use Rattle.hound_writer.specs.declared.effects.Effect.{Effect}
use Rattle.hound_writer.specs.declared.effects.Effect.TheVariants.{Sync, Pad, Size}
use Rattle.hound_writer.specs.declared.effects.Report.{Report}
use Rattle.hound_writer.specs.declared.effects.Report.TheVariants.{Pending, Done, Failed}
use Rattle.hound_writer.specs.declared.resuming.RepairState.{RepairState}
use Rattle.hound_writer.specs.declared.resuming.RepairState.TheVariants.{HasChunksAfterData}
use Rattle.hound_writer.proofs.Heads.{head_beyond, head_inside}
use Rattle.hound_writer.proofs.Repeating.{overlay_again}
use Rattle.hound_repair.specs.Held.{frames_held, held, mended, missing_pad, right_length, torn_bytes}
use Rattle.hound_repair.specs.Repairing.{IsFoundAt, IsRepairFault, IsSoundDamage, LeavesFor, Repairs, found_length, is_mended, repair_of, shown_of, state_of, unfollowed_state}
use Rattle.hound_repair.specs.Steps.{AsksAfter, AsksEffect, AsksMore, AsksNext, AsksPart, IsAsked, IsAtStage, IsLengthOf, IsMeasured, IsRejectedFor, IsRepair, PartlyMended, PerformsOn, Remeasures, asked_count, asks_for, effects_of_task, effects_where, failure_of, has_all, looks_for_chunks, mending_effects, mends_for, pads, rejected_for, stage_place}
use Rattle.hound_repair.specs.Driving.{DoesFor, IsMidway, IsPartlyRepaired, IsRequest, IsFoundIn, IsTried, IsUnderRepair, contents_after, first_stage}
use Rattle.hound_repair.specs.declared.look.Damage.{Damage}
use Rattle.hound_repair.specs.declared.look.Repair.{Repair}
use Rattle.hound_repair.specs.declared.look.SeenHead.{SeenHead}
use Rattle.hound_repair.specs.declared.machine.FailedAction.{FailedAction}
use Rattle.hound_repair.specs.declared.machine.FailedAction.TheVariants as failures
use Rattle.hound_repair.specs.declared.machine.RepairError.{RepairError}
use Rattle.hound_repair.specs.declared.machine.RepairError.TheVariants as errors
use Rattle.hound_repair.specs.declared.machine.RepairStep.{RepairStep}
use Rattle.hound_repair.specs.declared.machine.RepairStep.TheVariants.{Asks, Found}
use Rattle.hound_repair.specs.declared.machine.Repairing.{Repairing}
use Rattle.hound_repair.specs.declared.machine.Repairing.TheVariants as states
use Rattle.hound_repair.specs.declared.stages.Stage.{Stage}
use Rattle.hound_repair.specs.declared.stages.Task.{Task}
use Rattle.hound_repair.specs.declared.stages.Unrepairable.{Unrepairable}
use Rattle.hound_repair.proofs.ByEffects.{fault_of, repair_mends}
use Rattle.hound_repair.proofs.Mending.{length_is, repairs_kept, repairs_mended}
use Rattle.hound_repair.proofs.Performing.{Allowed, allowed, done_all, nth_next}
use Rattle.hound_repair.proofs.RightSizes.{length_fits}

-- past the last effect all were performed
all_taken : {T : Type 0} (k : ℕ) (list : List T) → nth list k ≡ None → take k list ≡ list
all_taken zero [] is = refl
all_taken (suc k) [] is = refl
all_taken zero (x ∷ list) is = absurd (cc is)
all_taken (suc k) (x ∷ list) is = ap (λ l. x ∷ l) (all_taken k list is)

-- what holds of each beginning of what effects write holds before the first, after some, and within one
before : (P : List ℕ → Type 0) (effects : List Effect) (c : List ℕ) → Allowed P effects c → P c
before P [] c here = here
before P (Sync ∷ effects) c (here, rest) = here
before P (Pad at ∷ effects) c (each, rest) = each 0 (omega arith)
before P (Size at size ∷ effects) c (each, rest) = each 0 (omega arith)

after : (P : List ℕ → Type 0) (k : ℕ) (effects : List Effect) (c : List ℕ) → Allowed P effects c
    → Allowed P (drop k effects) (contents_after (take k effects) c)
after P zero effects c all = all
after P (suc k) [] c all = all
after P (suc k) (Sync ∷ effects) c (here, rest) = after P k effects c rest
after P (suc k) (Pad at ∷ effects) c (each, rest) = after P k effects (overlay c (placed at (0 ∷ []))) rest
after P (suc k) (Size at size ∷ effects) c (each, rest) =
    after P k effects (overlay c (placed at (bytes_of 4 size))) rest

within : (P : List ℕ → Type 0) (effect : Effect) (effects : List Effect) (c new : List ℕ)
    → Allowed P (effect ∷ effects) c → IsTried effect c new → P new
within P Sync effects c new (here, rest) is = subst P (sym is) here
within P (Pad at) effects c new (each, rest) (j, most, is) = subst P (sym is) (each j most)
within P (Size at size) effects c new (each, rest) (j, most, is) = subst P (sym is) (each j most)

-- an effect that wasn't tried, and one that is tried again
untried : (effect : Effect) (c new : List ℕ) → new ≡ c → IsTried effect c new
untried Sync c new is = is
untried (Pad at) c new is = (0, omega arith, is)
untried (Size at size) c new is = (0, omega arith, is)

tried_again : (keeps : Bool) (effect : Effect) (c : List ℕ) (result : Result (Unit {0}) IoFault)
    (old new : MediumState) → IsTried effect c old.contents → PerformsOn keeps effect result old new
    → IsTried effect c new.contents
tried_again keeps Sync c result old new is flushes = flushes.stays.contents ∙ is
tried_again keeps (Pad at) c result old new (j, most, is) puts = (
  max j puts.count,
  omega (arith, most, puts.within),
  puts.contents ∙ ap (λ l. overlay l (placed at (take puts.count (0 ∷ [])))) is
      ∙ overlay_again (0 ∷ []) j puts.count at c,
)
tried_again keeps (Size at size) c result old new (j, most, is) puts = (
  max j puts.count,
  omega (arith, most, puts.within),
  puts.contents ∙ ap (λ l. overlay l (placed at (take puts.count (bytes_of 4 size)))) is
      ∙ overlay_again (bytes_of 4 size) j puts.count at c,
)

-- and one that is performed
performed_now : (keeps : Bool) (effect : Effect) (c : List ℕ) (old new : MediumState) → IsTried effect c old.contents
    → PerformsOn keeps effect (Ok tt) old new → new.contents ≡ contents_after (effect ∷ []) c
performed_now keeps Sync c old new is flushes = flushes.stays.contents ∙ is
performed_now keeps (Pad at) c old new (j, most, is) puts =
    puts.contents ∙ ap (λ l. overlay l (placed at (take puts.count (0 ∷ [])))) is
    ∙ overlay_again (0 ∷ []) j puts.count at c
    ∙ ap (λ k. overlay c (placed at (take k (0 ∷ []))))
    (let e : max j puts.count ≡ 1 = omega (arith, most, puts.whole) in e)
performed_now keeps (Size at size) c old new (j, most, is) puts =
    puts.contents ∙ ap (λ l. overlay l (placed at (take puts.count (bytes_of 4 size)))) is
    ∙ overlay_again (bytes_of 4 size) j puts.count at c
    ∙ ap (λ k. overlay c (placed at (take k (bytes_of 4 size))))
    (let e : max j puts.count ≡ 4 = omega (arith, most, puts.whole) in e)

-- the contents after one effect more
one_more_on : (k : ℕ) (effects : List Effect) (effect : Effect) (c : List ℕ) → nth effects k ≡ Some effect
    → contents_after (effect ∷ []) (contents_after (take k effects) c) ≡ contents_after (take (suc k) effects) c
one_more_on k [] effect c is = absurd (cc is)
one_more_on zero (one ∷ effects) effect c is =
    ap (λ e. contents_after (e ∷ []) c) (let e : effect ≡ one = cc is in e)
one_more_on (suc k) (Sync ∷ effects) effect c is = one_more_on k effects effect c is
one_more_on (suc k) (Pad at ∷ effects) effect c is =
    one_more_on k effects effect (overlay c (placed at (0 ∷ []))) is
one_more_on (suc k) (Size at size ∷ effects) effect c is =
    one_more_on k effects effect (overlay c (placed at (bytes_of 4 size))) is

-- the last of the effects that mend a file is a sync
abbrev EndsInSync : List Effect → Type 0
EndsInSync [] = ⊤
EndsInSync (effect ∷ []) = effect ≡ Sync
EndsInSync (effect ∷ other ∷ effects) = EndsInSync (other ∷ effects)

last_syncs : (k : ℕ) (effects : List Effect) (effect : Effect) → EndsInSync effects → nth effects k ≡ Some effect
    → nth effects (suc k) ≡ None → effect ≡ Sync
last_syncs k [] effect ends is none = absurd (cc is)
last_syncs zero (one ∷ []) effect ends is none = (let e : effect ≡ one = cc is in e) ∙ ends
last_syncs (suc k) (one ∷ []) effect ends is none = absurd (cc is)
last_syncs zero (one ∷ other ∷ effects) effect ends is none = absurd (cc none)
last_syncs (suc k) (one ∷ other ∷ effects) effect ends is none = last_syncs k (other ∷ effects) effect ends is none

pads_end : (end : ℕ) (pad : List ℕ) → EndsInSync (Sync ∷ pads end pad)
pads_end end [] = refl
pads_end end (b ∷ bytes) = refl

ends_in_sync : (put : Bool) (d : Damage) → EndsInSync (effects_where put d)
ends_in_sync true d = pads_end (d.head.data_start + d.held) (missing_pad d.sizes.data_length d.held)
ends_in_sync false d = tt

-- nothing is done unless a file is mended, and then there is a first effect
none_for : (put : Bool) (d : Damage) (k : ℕ) (effect : Effect) → nth (effects_where put d) k ≡ Some effect
    → put ≡ true
none_for true d k effect is = refl
none_for false d k effect is = absurd (cc is)

left_for : (put : Bool) (d : Damage) → nth (effects_where put d) 0 ≡ None → put ≡ false
left_for true d none = absurd (cc none)
left_for false d none = refl

-- one after the other that writes nothing
puts_on : (old mid new : MediumState) → PutsNothing old mid → PutsNothing mid new → PutsNothing old new
puts_on old mid new a b = grind (arith, common_steps)

-- a task mends a file only if it has no chunks after the data
apart_of : (task : Task) (state : RepairState) → mends_for task state ≡ true → state ≡ HasChunksAfterData → ⊥
apart_of task state is = grind (arith, common_steps)

module _ (task : Task) (c : List ℕ) (d : Damage) (at : IsFoundIn task c d) (small : AreBytes c)
    (put : mends_for task d.state ≡ true) where
  abbrev start : ℕ
  start = d.head.data_start

  abbrev n : ℕ
  n = d.sizes.data_length

  abbrev all : List Effect
  all = mending_effects start n (held start c)

  beyond : 20 ≤ start
  beyond = head_beyond c d.head.spec_ex d.head.data_length start at.found.head

  inside : start ≤ length c
  inside = head_inside c d.head.spec_ex d.head.data_length start at.found.head

  apart : d.state ≡ HasChunksAfterData → ⊥
  apart = apart_of task d.state put

  fits : n < 2 ^ 32
  fits = subst (λ k. k < 2 ^ 32) (sym (length_is d at.sound apart))
      (length_fits (looks_for_chunks task) c (repair_of d) d.head.data_length start at.found apart)

  effects_are : effects_of_task task d ≡ all
  effects_are = ap (λ p. effects_where p d) put ∙ ap (mending_effects start n) at.held_is

  is_allowed : Allowed (PartlyMended start n c) all c
  is_allowed = allowed true start n c beyond inside small fits

  partly : (k : ℕ) (effect : Effect) (new : List ℕ) → nth (effects_of_task task d) k ≡ Some effect
      → IsTried effect (contents_after (take k (effects_of_task task d)) c) new
      → PartlyMended start (found_length (repair_of d)) c new
  partly k effect new is tried =
      let P = PartlyMended start n c in
      subst (λ i. PartlyMended start i c new) (length_is d at.sound apart)
      (within P effect (drop (k + 1) all) (contents_after (take k all) c) new
      (subst (λ l. Allowed P l (contents_after (take k all) c))
      (nth_next all k effect (ap (λ l. nth l k) (sym effects_are) ∙ is)) (after P k all c is_allowed))
      (subst (λ l. IsTried effect (contents_after (take k l) c) new) effects_are tried))

  mends_all : contents_after (effects_of_task task d) c ≡ mended start (found_length (repair_of d)) c
  mends_all = ap (λ l. contents_after l c) effects_are ∙ done_all true start n c beyond inside small fits
      ∙ ap (λ i. mended start i c) (length_is d at.sound apart)

-- the same of what is equal
become : (task : Task) (n : ℕ) (old new : MediumState) (next state : Repairing)
    (answer said : Result RepairStep RepairError) → next ≡ state → answer ≡ said
    → IsUnderRepair task n old state said new → IsUnderRepair task n old next answer new
become task n old new next state answer said a b is =
    subst (λ (x : Repairing × Result RepairStep RepairError). IsUnderRepair task n old x.0 x.1 new)
    (λ i. (sym a i, sym b i)) is

-- bytes of which something was found have no fault
no_fault : (looks : Bool) (c : List ℕ) (found : Repair) (len start : ℕ) (fault : AppendFault)
    → IsFoundAt looks c found len start → IsRepairFault c fault → ⊥
no_fault looks c found len start fault at (inl (cause, is, rejected)) =
    head_no_fault c found.spec_ex len start cause at.head rejected
no_fault looks c found len start fault at (inr (t, m, h, other, some)) =
    let agree = heads_agree c t found.spec_ex m len h start other at.head in
    let never : ⊥ = cc (agree.0, agree.1, agree.2, at.check, some) in never

-- a file that a task mends isn't whole, and nothing follows its data
unmended : (task : Task) (right followed counted : Bool) (state : RepairState) → state ≡ state_of right followed counted
    → mends_for task state ≡ true → state ≡ unfollowed_state counted
unmended task right followed counted state is put = grind (arith, common_steps)

-- what is measured again of a file is what was found
same_damage : (task : Task) (c : List ℕ) (d e : Damage) → IsFoundIn task c d → mends_for task d.state ≡ true
    → IsSoundDamage e → e.head ≡ d.head → IsMeasured c e → e ≡ d
same_damage task c d e at put sound head m =
    let held_is : e.held ≡ d.held =
    m.held_is ∙ ap (λ (h : SeenHead). held h.data_start c) head ∙ sym at.held_is in
    let length_is : e.sizes.data_length ≡ d.sizes.data_length =
    sound.sizes.length_is ∙ (λ i. let h : SeenHead = head i in right_length h.spec_ex (shown_of h) (held_is i))
    ∙ sym at.sound.sizes.length_is in
    let riff : e.sizes.riff_size ≡ d.sizes.riff_size =
    sound.sizes.riff ∙ (λ i. let h : SeenHead = head i in riff_size h.data_start (length_is i))
    ∙ sym at.sound.sizes.riff in
    let frames : e.sizes.frames ≡ d.sizes.frames =
    sound.sizes.frames ∙ (λ i. let h : SeenHead = head i in frames_held h.spec_ex (shown_of h) (held_is i))
    ∙ sym at.sound.sizes.frames in
    let torn : e.sizes.left_over ≡ d.sizes.left_over =
    sound.sizes.torn ∙ (λ i. let h : SeenHead = head i in torn_bytes h.spec_ex (shown_of h) (held_is i))
    ∙ sym at.sound.sizes.torn in
    let state : e.state ≡ d.state =
    m.state ∙ ap (λ h. unfollowed_state (has_all c h)) head ∙ sym (unmended task _ _ _ d.state at.found.state put) in
    λ i. record {
      head = head i;
      held = held_is i;
      sizes = record { riff_size = riff i; data_length = length_is i; frames = frames i; left_over = torn i };
      state = state i;
    }

module _ (keeps : Bool) (task : Task) (n : ℕ) (old : MediumState) (small : AreBytes old.contents)
    (size : IsLengthOf n old.contents) where
  -- once the file is known the first effect is requested, or none is to be performed
  begins_with : (d : Damage) (new : MediumState) (next : Repairing) (ask : RepairStep) → IsFoundIn task old.contents d
      → PutsNothing old new → AsksEffect task d 0 ask next → IsUnderRepair task n old next (Ok ask) new
  begins_with d new next (Asks action) at nothing (effect, is, action_is, next_is) =
      become task n old new next (states.Mends d.head 0) (Ok (Asks action)) (Ok (Asks action)) next_is refl
      (d, effect, refl, action_is, (at, is, untried effect old.contents new.contents nothing.stays.contents))
  begins_with d new next (Found found) at nothing (none, found_is, next_is) =
      become task n old new next (states.Found d.head d.state) (Ok (Found found)) (Ok (Found d)) next_is
      (ap (λ f. Ok (Found f)) found_is)
      (at, subst (λ put. LeavesFor put (repair_of d) d.head.data_start old new) (sym (left_for _ d none)) nothing)

  -- after an effect the next one is, or all were performed
  goes_to : (d : Damage) (k : ℕ) (effect : Effect) (mid new : MediumState) (next : Repairing) (ask : RepairStep)
      → IsMidway task old.contents d k effect mid.contents → PerformsOn keeps effect (Ok tt) mid new
      → AsksEffect task d (k + 1) ask next → IsUnderRepair task n old next (Ok ask) new
  goes_to d k effect mid new next ask (at, is, tried) does asks =
      let one : suc k ≡ k + 1 = omega arith in
      let list = effects_of_task task d in
      let here : new.contents ≡ contents_after (take (suc k) list) old.contents =
      performed_now keeps effect _ mid new tried does ∙ one_more_on k list effect old.contents is in
      by ask here (subst (λ j. AsksEffect task d j ask next) (sym one) asks)
    where
      flushed_by : (e : Effect) → e ≡ Sync → PerformsOn keeps e (Ok tt) mid new → new.flushed ≡ length new.past
      flushed_by Sync is flushes = flushes.flushed
      flushed_by (Pad at) is puts = absurd (cc is)
      flushed_by (Size at size) is puts = absurd (cc is)

      by : (ask : RepairStep) → new.contents ≡ contents_after (take (suc k) (effects_of_task task d)) old.contents
          → AsksEffect task d (suc k) ask next → IsUnderRepair task n old next (Ok ask) new
      by (Asks action) here (other, nth_is, action_is, next_is) =
          become task n old new next (states.Mends d.head (suc k)) (Ok (Asks action)) (Ok (Asks action)) next_is refl
          (d, other, refl, action_is, (at, nth_is, untried other _ new.contents here))
      by (Found found) here (none, found_is, next_is) =
          let put = none_for (mends_for task d.state) d k effect is in
          let list = effects_of_task task d in
          let contents = here ∙ ap (λ l. contents_after l old.contents) (all_taken (suc k) list none)
          ∙ mends_all task old.contents d at small put in
          let syncs = last_syncs k (effects_of_task task d) effect (ends_in_sync (mends_for task d.state) d) is none in
          become task n old new next (states.Found d.head d.state) (Ok (Found found)) (Ok (Found d)) next_is
          (ap (λ f. Ok (Found f)) found_is) (
            at,
            subst (λ put. LeavesFor put (repair_of d) d.head.data_start old new) (sym put)
                (contents, flushed_by effect syncs does),
          )

  -- an effect that wasn't reported is requested again
  asks_again : (d : Damage) (k : ℕ) (effect : Effect) (new : MediumState) (next : Repairing) (ask : RepairStep)
      → IsMidway task old.contents d k effect new.contents → AsksEffect task d k ask next
      → IsUnderRepair task n old next (Ok ask) new
  asks_again d k effect new next (Asks action) (at, is, tried) (other, nth_is, action_is, next_is) =
      let same : effect ≡ other = cc (is, nth_is) in
      become task n old new next (states.Mends d.head k) (Ok (Asks action)) (Ok (Asks action)) next_is refl (
        d,
        other,
        refl,
        action_is,
        (
          at,
          nth_is,
          subst (λ e. IsTried e (contents_after (take k (effects_of_task task d))
              old.contents) new.contents) same tried,
        ),
      )
  asks_again d k effect new next (Found found) (at, is, tried) (none, found_is, next_is) = absurd (cc (is, none))

  -- a part was read
  by_part : (stage : Stage) (bytes : List ℕ) (new : MediumState) (next : Repairing)
      (answer : Result RepairStep RepairError) → IsAtStage (looks_for_chunks task) old.contents stage
      → PutsNothing old new → IsAsked n stage old.contents bytes → AsksPart task n bytes stage next answer
      → IsUnderRepair task n old next answer new
  by_part stage bytes new next (Ok ask) at nothing asked (enough, inl (other, next_is, ask_is, nearer, stays, leads)) =
      become task n old new next (states.Looks other) (Ok ask) (Ok (Asks (asks_for other n))) next_is (ap Ok ask_is)
      (refl, leads old.contents size at asked, nothing)
  by_part stage bytes new next (Ok ask) at nothing asked (enough, inr (d, sound, from, asks, found)) =
      let is = found old.contents size at asked in
      begins_with d new next ask (record { sound = sound; found = is.0; held_is = is.1; shown = is.2 }) nothing asks
  by_part stage bytes new next (Err (errors.Rejected why)) at nothing asked (next_is, rejected) =
      become task n old new next (states.Looks stage) (Err (errors.Rejected why)) (Err (errors.Rejected why))
      next_is refl (rejected old.contents size at asked, nothing)
  by_part stage bytes new next (Err (errors.Failed failure)) at nothing asked never = absurd never

  looks_on : (stage : Stage) (bytes : List ℕ) (report : Report) (mid new : MediumState) (next : Repairing)
      (answer : Result RepairStep RepairError) → IsAtStage (looks_for_chunks task) old.contents stage
      → PutsNothing old mid → DoesFor keeps (asks_for stage n) bytes report mid new
      → AsksNext task n bytes report (states.Looks stage) next answer → IsUnderRepair task n old next answer new
  looks_on stage bytes Pending mid new next answer at nothing did (next_is, answer_is) =
      become task n old new next (states.Looks stage) answer (Ok (Asks (asks_for stage n))) next_is answer_is
      (refl, at, puts_on old mid new nothing did)
  looks_on stage bytes Done mid new next answer at nothing (read, did) asks =
      by_part stage bytes new next answer at (puts_on old mid new nothing did)
      (read ∙ ap (λ c. take (asked_count stage) (drop (stage_place stage n) c)) nothing.stays.contents) asks
  looks_on stage bytes Failed mid new next answer at nothing did (answer_is, next_is) =
      become task n old new next (states.Failed failures.Call) answer (Err (errors.Failed failures.Call))
      next_is answer_is (inl (puts_on old mid new nothing did))

  -- an effect was reported, or not
  by_effect : (d : Damage) (k : ℕ) (effect : Effect) (bytes : List ℕ) (report : Report) (mid new : MediumState)
      (next : Repairing) (answer : Result RepairStep RepairError)
      → IsMidway task old.contents d k effect mid.contents → DoesFor keeps (Perform effect) bytes report mid new
      → AsksAfter task d k report (Some effect) next answer → IsUnderRepair task n old next answer new
  by_effect d k effect bytes Pending mid new next (Ok ask) midway (inl same) asks =
      asks_again d k effect new next ask
      (subst (λ (m : MediumState). IsMidway task old.contents d k effect m.contents) (sym same) midway) asks
  by_effect d k effect bytes Pending mid new next (Ok ask) (at, is, tried) (inr (result, does)) asks =
      asks_again d k effect new next ask (at, is, tried_again keeps effect _ result mid new tried does) asks
  by_effect d k effect bytes Done mid new next (Ok ask) midway does asks =
      goes_to d k effect mid new next ask midway does asks
  by_effect d k effect bytes Pending mid new next (Err error) midway did never = absurd never
  by_effect d k effect bytes Done mid new next (Err error) midway did never = absurd never
  by_effect d k effect bytes Failed mid new next answer (at, is, tried) (fault, does) (answer_is, next_is) =
      become task n old new next (states.Failed (failure_of effect)) answer (Err (errors.Failed (failure_of effect)))
      next_is answer_is (inr (d, k, effect, (at, is, tried_again keeps effect _ (Err fault) mid new tried does)))

  mends_on : (d : Damage) (k : ℕ) (effect : Effect) (bytes : List ℕ) (report : Report) (mid new : MediumState)
      (next : Repairing) (answer : Result RepairStep RepairError)
      → IsMidway task old.contents d k effect mid.contents → DoesFor keeps (Perform effect) bytes report mid new
      → Remeasures n d.head (states.Mends d.head k) next answer (λ e. AsksMore task e k report next answer)
      → IsUnderRepair task n old next answer new
  mends_on d k effect bytes report mid new next answer (at, is, tried) did
      (inl (e, sound, state, head, asks, measures)) =
      let same = same_damage task old.contents d e at (none_for _ d k effect is) sound head
      (measures old.contents size at.found.head at.shown) in
      by_effect d k effect bytes report mid new next answer (at, is, tried) did
      (subst (λ o. AsksAfter task d k report o next answer) is
      (subst (λ x. AsksMore task x k report next answer) same asks))
  mends_on d k effect bytes report mid new next answer (at, is, tried) did (inr (why, answer_is, next_is, rejected)) =
      absurd (no_fault (looks_for_chunks task) old.contents (repair_of d) d.head.data_length d.head.data_start
      (rejected_for why) at.found (fault_of why old.contents (rejected old.contents size at.found.head at.shown)))

  pub goes_on : (mid new : MediumState) (state next : Repairing) (action : Action) (bytes : List ℕ) (report : Report)
      (answer : Result RepairStep RepairError) → IsUnderRepair task n old state (Ok (Asks action)) mid
      → DoesFor keeps action bytes report mid new → AsksNext task n bytes report state next answer
      → IsUnderRepair task n old next answer new
  goes_on mid new (states.Looks stage) next action bytes report answer (is, at, nothing) did asks =
      looks_on stage bytes report mid new next answer at nothing
      (subst (λ a. DoesFor keeps a bytes report mid new) is did) asks
  goes_on mid new (states.Mends head k) next action bytes report answer
      (d, effect, head_is, action_is, midway) did asks =
      mends_on d k effect bytes report mid new next answer midway
      (subst (λ a. DoesFor keeps a bytes report mid new) action_is did)
      (subst (λ h. Remeasures n h (states.Mends h k) next answer (λ e. AsksMore task e k report next answer))
      (sym head_is) asks)
  goes_on mid new (states.Found head found) next action bytes report answer never did asks = absurd never
  goes_on mid new (states.Failed failure) next action bytes report answer never did asks = absurd never

-- no part is long
few_asked : (stage : Stage) → asked_count stage ≤ 40
few_asked stage = grind (arith, common_steps)

-- a repair leaves the file as its task does
repairs_so : (looks put : Bool) (d : Damage) (old new : MediumState) → IsSoundDamage d
    → IsFoundAt looks old.contents (repair_of d) d.head.data_length d.head.data_start
    → is_mended (not looks) d.state ≡ put → LeavesFor put (repair_of d) d.head.data_start old new
    → new.faults ≡ old.faults → Repairs looks old (repair_of d) new
repairs_so looks true d old new sound found put (contents, flushed) faults =
    repairs_mended looks old new (repair_of d) d.head.data_length d.head.data_start found sound.spec put contents
    flushed faults
repairs_so looks false d old new sound found put nothing faults =
    repairs_kept looks old new (repair_of d) d.head.data_length d.head.data_start found sound.spec put nothing faults

module _ (task : Task) (n : ℕ) (old mid : MediumState) (size : IsLengthOf n old.contents) where
  ends_effect : (d : Damage) (k : ℕ) (effect : Effect) (next : Repairing) (answer : Result RepairStep RepairError)
      → IsMidway task old.contents d k effect mid.contents
      → Remeasures n d.head (states.Mends d.head k) next answer (λ e. AsksMore task e k Failed next answer)
      → (failure : FailedAction) × (answer ≡ Err (errors.Failed failure))
  ends_effect d k effect next answer (at, is, tried) (inl (e, sound, state, head, asks, measures)) =
      let same = same_damage task old.contents d e at (none_for _ d k effect is) sound head
      (measures old.contents size at.found.head at.shown) in
      let (answer_is, next_is) = subst (λ o. AsksAfter task d k Failed o next answer) is
      (subst (λ x. AsksMore task x k Failed next answer) same asks) in (failure_of effect, answer_is)
  ends_effect d k effect next answer (at, is, tried) (inr (why, answer_is, next_is, rejected)) =
      absurd (no_fault (looks_for_chunks task) old.contents (repair_of d) d.head.data_length d.head.data_start
      (rejected_for why) at.found (fault_of why old.contents (rejected old.contents size at.found.head at.shown)))

  pub ends_failed : (state next : Repairing) (action : Action) (bytes : List ℕ)
      (answer : Result RepairStep RepairError) → IsUnderRepair task n old state (Ok (Asks action)) mid
      → AsksNext task n bytes Failed state next answer
      → (failure : FailedAction) × (answer ≡ Err (errors.Failed failure))
  ends_failed (states.Looks stage) next action bytes answer under (answer_is, next_is) = (failures.Call, answer_is)
  ends_failed (states.Mends head k) next action bytes answer (d, effect, head_is, action_is, midway) asks =
      ends_effect d k effect next answer midway
      (subst (λ h. Remeasures n h (states.Mends h k) next answer (λ e. AsksMore task e k Failed next answer))
      (sym head_is) asks)
  ends_failed (states.Found head found) next action bytes answer never asks = absurd never
  ends_failed (states.Failed failure) next action bytes answer never asks = absurd never

module _ (task : Task) (n : ℕ) (old new : MediumState) where
  pub begins : IsUnderRepair task n old (states.Looks first_stage) (Ok (Asks (asks_for first_stage n))) old
  begins =
      (refl, tt, record { stays = record { contents = refl; start = refl; past = refl }; flushed = refl })

  pub requests : (state : Repairing) (action : Action) → IsUnderRepair task n old state (Ok (Asks action)) new
      → IsRequest action
  requests (states.Looks stage) action (is, at, nothing) = subst IsRequest (sym is) (few_asked stage)
  requests (states.Mends head k) action (d, effect, head_is, action_is, midway) = subst IsRequest (sym action_is) tt
  requests (states.Found head found) action never = absurd never
  requests (states.Failed failure) action never = absurd never

  pub finds : (state : Repairing) (d : Damage) → IsUnderRepair task n old state (Ok (Found d)) new
      → IsFoundAt (looks_for_chunks task) old.contents (repair_of d) d.head.data_length d.head.data_start
      × LeavesFor (mends_for task d.state) (repair_of d) d.head.data_start old new
      × (IsRepair task → new.faults ≡ old.faults → Repairs (looks_for_chunks task) old (repair_of d) new)
  finds (states.Found head found) d (at, leaves) = (
    at.found,
    leaves,
    λ is faults. repairs_so (looks_for_chunks task) _ d old new at.sound at.found (sym (repair_mends task d.state is))
        leaves faults,
  )
  finds (states.Looks stage) d never = absurd never
  finds (states.Mends head k) d never = absurd never
  finds (states.Failed failure) d never = absurd never

  pub rejects : (state : Repairing) (why : Unrepairable)
      → IsUnderRepair task n old state (Err (errors.Rejected why)) new
      → IsRejectedFor old.contents why × PutsNothing old new
  rejects (states.Looks stage) why is = is
  rejects (states.Found head found) why never = absurd never
  rejects (states.Mends head k) why never = absurd never
  rejects (states.Failed failure) why never = absurd never

  partly_by : (d : Damage) (k : ℕ) (effect : Effect) → AreBytes old.contents
      → IsMidway task old.contents d k effect new.contents → IsPartlyRepaired task old new
  partly_by d k effect small (at, is, tried) =
      let put = none_for (mends_for task d.state) d k effect is in
      inr (
        repair_of d,
        d.head.data_length,
        d.head.data_start,
        at.found,
        put,
        partly task old.contents d at small put k effect new.contents is tried,
      )

  pub fails_partly : (state : Repairing) (failure : FailedAction) → AreBytes old.contents
      → IsUnderRepair task n old state (Err (errors.Failed failure)) new → IsPartlyRepaired task old new
  fails_partly (states.Failed f) failure small (inl nothing) = inl nothing
  fails_partly (states.Failed f) failure small (inr (d, k, effect, midway)) = partly_by d k effect small midway
  fails_partly (states.Looks stage) failure small never = absurd never
  fails_partly (states.Found head found) failure small never = absurd never
  fails_partly (states.Mends head k) failure small never = absurd never

  tried_by : (keeps : Bool) (effect : Effect) (c bytes : List ℕ) (report : Report) (mid : MediumState)
      → IsTried effect c mid.contents → DoesFor keeps (Perform effect) bytes report mid new
      → IsTried effect c new.contents
  tried_by keeps effect c bytes Pending mid tried (inl same) =
      subst (λ (m : MediumState). IsTried effect c m.contents) (sym same) tried
  tried_by keeps effect c bytes Pending mid tried (inr (result, does)) =
      tried_again keeps effect c result mid new tried does
  tried_by keeps effect c bytes Done mid tried does = tried_again keeps effect c (Ok tt) mid new tried does
  tried_by keeps effect c bytes Failed mid tried (fault, does) =
      tried_again keeps effect c (Err fault) mid new tried does

  stops_looking : (keeps : Bool) (place count : ℕ) (bytes : List ℕ) (report : Report) (mid : MediumState)
      → PutsNothing old mid → DoesFor keeps (Read place count) bytes report mid new → IsPartlyRepaired task old new
  stops_looking keeps place count bytes Pending mid nothing did = inl (puts_on old mid new nothing did)
  stops_looking keeps place count bytes Done mid nothing (read, did) = inl (puts_on old mid new nothing did)
  stops_looking keeps place count bytes Failed mid nothing did = inl (puts_on old mid new nothing did)

  pub stops_partly : (keeps : Bool) (mid : MediumState) (state : Repairing) (action : Action) (bytes : List ℕ)
      (report : Report) → AreBytes old.contents → IsUnderRepair task n old state (Ok (Asks action)) mid
      → DoesFor keeps action bytes report mid new → IsPartlyRepaired task old new
  stops_partly keeps mid (states.Looks stage) action bytes report small (is, at, nothing) did =
      stops_looking keeps (stage_place stage n) (asked_count stage) bytes report mid nothing
      (subst (λ a. DoesFor keeps a bytes report mid new) is did)
  stops_partly keeps mid (states.Mends head k) action bytes report small
      (d, effect, head_is, action_is, (at, is, tried)) did =
      partly_by d k effect small (
        at,
        is,
        tried_by keeps effect _ bytes report mid tried
            (subst (λ a. DoesFor keeps a bytes report mid new) action_is did),
      )
  stops_partly keeps mid (states.Found head found) action bytes report small never did = absurd never
  stops_partly keeps mid (states.Failed failure) action bytes report small never did = absurd never
