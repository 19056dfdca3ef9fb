-- A recorder's file is written at ascending places only since it was synced.
use Rattle.std.proofs.lemmas.Grind.{common_steps}
use Rattle.std.proofs.Common.{◌≡◌, ℕ, zero, suc, ◌+◌, ◌≤◌, Bool, true, List, [], ◌∷◌, length, take, Result, Ok, Err, is_ok, refl, ◌∙◌, ap, subst, arith, length-take}
use Rattle.std.specs.Prelude.{⊤, if◌then◌else◌}
use Rattle.std.specs.declared.io.Error.{Error as IoFault}
use Rattle.hound_spec.specs.{data_start, header}
use Rattle.hound_spec.specs.declared.spec.WavSpecEx.{WavSpecEx}
use Rattle.hound_spec.proofs.HeaderLemmas.{length-header}
use Rattle.hound_medium.specs.{MediumState}
use Rattle.hound_durable.specs.{Ascends, IsBelow}
use Rattle.hound_durable.proofs.Ascending.{ascends_more, below_more, length_put}
use Rattle.hound_writer.specs.Effects.{Log, Performed, Performs, checkpoint}
use Rattle.hound_writer.specs.Parts.{PutsAt}
use Rattle.hound_writer.specs.Recording.{IsOrdered, IsSynced}
use Rattle.hound_writer.proofs.Checkpoint.{fine}
use Rattle.hound_writer.specs.declared.effects.Effect.{Effect}
use Rattle.hound_writer.specs.declared.effects.Effect.TheVariants.{Pad, Size, Sync}

-- nothing was written since then
pub in_order_none : (high : ℕ) (m : MediumState) → IsSynced m → IsOrdered high m
in_order_none high m all = grind (arith, common_steps)

-- bytes that are written from there on
pub puts_in_order : {T E : Type 0} (high at : ℕ) (bytes : List ℕ) (r : Result T E) (old new : MediumState)
    → high ≤ at → IsOrdered high old → PutsAt true at bytes r old new → IsOrdered (at + length bytes) new
puts_in_order high at bytes r old new le order puts =
    let bs = take puts.count bytes in
    let past = puts.past refl in
    let below : IsBelow (at + length bs) new.past new.flushed =
    rw (past, puts.flushed) (below_more old.past at high old.flushed bs order.below le) in
    let ascends : Ascends new.past new.flushed (length new.past) =
    rw (past, puts.flushed) (ascends_more old.past at high old.flushed bs order.below le order.ascends) in
    let long = ap length past ∙ length_put old.past at bs in
    let few = length-take puts.count bytes in
    grind arith

-- what is left by the result: places before this one, if it is Ok
abbrev Leaves : Result (Unit {0}) IoFault → ℕ → MediumState → Type 0
Leaves r high m = (top : ℕ) × IsOrdered top m × (is_ok r ≡ true → top ≤ high)

-- an effect may come after bytes before this place: it writes none before it
abbrev Follows : ℕ → Effect → Type 0
Follows high Sync = ⊤
Follows high (Pad at) = high ≤ at
Follows high (Size at size) = high ≤ at

-- the place before which all bytes are then
abbrev high_after : Effect → ℕ
high_after Sync = 0
high_after (Pad at) = at + 1
high_after (Size at size) = at + 4

effect_ordered : (effect : Effect) (high : ℕ) (r : Result (Unit {0}) IoFault) (old new : MediumState)
    → Follows high effect → IsOrdered high old → Performs effect r old new → Leaves r (high_after effect) new
effect_ordered Sync high (Ok x) old new le order did = (0, in_order_none 0 new did.flushed, λ _. omega arith)
effect_ordered Sync high (Err e) old new le order did = (high, grind (arith, common_steps), λ is. cc)
effect_ordered (Pad at) high r old new le order did =
    (at + 1, puts_in_order high at (0 ∷ []) r old new le order did, λ _. omega arith)
effect_ordered (Size at size) high r old new le order did =
    (at + 4, puts_in_order high at _ r old new le order did, λ _. omega arith)

-- effects, each after the one before, and all before this place
abbrev Ordered : ℕ → List Effect → ℕ → Type 0
Ordered high [] end = high ≤ end
Ordered high (effect ∷ effects) end = Follows high effect × Ordered (high_after effect) effects end

lower : (m : MediumState) (low high : ℕ) → low ≤ high → IsOrdered low m → IsOrdered high m
lower m low high le order = grind (arith, common_steps)

pub all_ordered : (effects : List Effect) (high end : ℕ) (result : Result (Unit {0}) IoFault) (old new : Log)
    → Ordered high effects end → IsOrdered high old.state → Performed effects result old new
    → Leaves result end new.state
all_ordered [] high end result old new le order (is, last) = rw last (high, order, λ _. le)
all_ordered (effect ∷ effects) high end result old new (le, ordered) order (mid, Ok x, did, rest) =
    let (top, now, small) = effect_ordered effect high (Ok x) old.state mid.state le order did in
    all_ordered effects (high_after effect) end result mid new ordered
    (lower mid.state top (high_after effect) (small refl) now) rest
all_ordered (effect ∷ effects) high end result old new (le, ordered) order (mid, Err e, did, (is, last)) =
    let (top, now, small) = effect_ordered effect high (Err e) old.state mid.state le order did in
    rw last (top, now, λ fine. let same = ap is_ok is in cc)

-- the effects of a recorder: after a failure a sync comes first
pub effects_ordered : (clean : Bool) (start n high : ℕ) → 20 ≤ start → (clean ≡ true → high ≤ start + n)
    → Ordered high (if clean then checkpoint start n else Sync ∷ checkpoint start n) (start + n)
effects_ordered clean start n high after low = grind (arith, common_steps)

-- and of those the first k
pub taken_ordered : (effects : List Effect) (k high end : ℕ) → Ordered high effects end
    → (last : ℕ) × Ordered high (take k effects) last
taken_ordered [] zero high end ordered = (end, ordered)
taken_ordered [] (suc k) high end ordered = (end, ordered)
taken_ordered (effect ∷ effects) zero high end ordered = (high, omega arith)
taken_ordered (effect ∷ effects) (suc k) high end (le, ordered) =
    let (last, rest) = taken_ordered effects k (high_after effect) end ordered in (last, (le, rest))

-- a header that was written to a medium of which all was synced
pub header_in_order : (s : WavSpecEx) (old new : MediumState) → IsSynced old
    → PutsAt {T = Unit {0}} {E = IoFault} true 0 (header s 0 0) (Ok tt) old new → IsOrdered (data_start s) new
header_in_order s old new synced puts =
    let end : 0 + length (header s 0 0) ≡ data_start s = omega (arith, length-header s 0 0) in
    subst (λ n. IsOrdered n new) end
    (puts_in_order 0 0 (header s 0 0) (fine tt) old new (omega arith) (in_order_none 0 old synced) puts)
