-- What holds in each intermediate state, call after call.
use Rattle.std.proofs.Common.{rules}
use Rattle.std.proofs.lemmas.Grind.{common_steps}
use Rattle.std.proofs.Common.{◌≡◌, ℕ, ◌+◌, ◌-◌, ◌≤◌, List, ◌++◌, length, take, Result, sym, ◌∙◌, ap, subst, arith, length-append}
use Rattle.std.proofs.lemmas.List.{take-append-le}
use Rattle.std.proofs.Math.Seq.{take-append-add}
use Rattle.hound_medium.specs.State.{placed, overlay, moment, MediumState, Flushes, Span, FlushedSince}
use Rattle.hound_medium.proofs.Overlays.{overlay-append, length-placed, take-placed}

-- an intermediate state of a past stays what it was, however the past continues
pub moment_before : (start : List ℕ) (past added : List (ℕ × ℕ)) (k : ℕ) → k ≤ length past
    → moment start (past ++ added) k ≡ moment start past k
moment_before start past added k within = ap (overlay start) (take-append-le k past added within)

-- an intermediate state after a past: its last contents, and then the first of what was added
pub moment_after : (start : List ℕ) (past added : List (ℕ × ℕ)) (k : ℕ)
    → moment start (past ++ added) (length past + k) ≡ overlay (overlay start past) (take k added)
moment_after start past added k = grind (arith, common_steps, take-append-add, overlay-append)

-- the last intermediate state is the contents
pub moment_last : (s : MediumState) → s.contents ≡ overlay s.start s.past
    → moment s.start s.past (length s.past) ≡ s.contents
moment_last s replays = grind (arith, common_steps)

-- what a call of flush leaves
pub flushed_since : {T E : Type 0} (result : Result T E) (a b : MediumState) → Flushes result a b → FlushedSince a b
flushed_since result a b flushes = search rules

module _ (At : ℕ → List ℕ → Type 0) (split : ℕ) where
  -- bytes are written at a place, by one call or several: at its level is what the first k of them leave
  pub span_puts : (old new : MediumState) (at : ℕ) (bytes : List ℕ)
      → old.contents ≡ overlay old.start old.past → new.start ≡ old.start
      → new.past ≡ old.past ++ placed at bytes → FlushedSince old new
      → ((k : ℕ) → k ≤ length bytes
      → At (length old.past + k - split) (overlay old.contents (placed at (take k bytes))))
      → Span At split old new
  span_puts old new at bytes replays start past flushed each =
      let size : length new.past ≡ length old.past + length bytes =
      ap length past ∙ length-append old.past (placed at bytes)
      ∙ ap (λ n. length old.past + n) (length-placed at bytes) in
      record {
        start = start;
        added = placed at bytes;
        past = past;
        flushed = flushed;
        each = λ k from to. let n = k - length old.past in
            let is_k : length old.past + n ≡ k = omega arith in
            let here : overlay old.contents (placed at (take n bytes)) ≡ moment new.start new.past k =
            (λ i. overlay (replays i) (sym (take-placed n at bytes) i))
            ∙ sym (moment_after old.start old.past (placed at bytes) n)
            ∙ (λ i. moment (sym start i) (sym past i) (is_k i)) in
            subst (At (k - split)) here
            (subst (λ m. At (m - split) (overlay old.contents (placed at (take n bytes)))) is_k
            (each n (omega (arith, size))));
      }

  -- nothing is written
  pub span_still : (old new : MediumState) → old.contents ≡ overlay old.start old.past
      → new.start ≡ old.start → new.past ≡ old.past → FlushedSince old new
      → At (length old.past - split) old.contents → Span At split old new
  span_still old new replays start past flushed at = grind (arith, common_steps)

  -- one span and then another
  pub join : (a b c : MediumState) → Span At split a b → Span At split b c → Span At split a c
  join a b c first then = grind (arith, common_steps)

-- what holds at the end of a span that is at level 0 throughout
pub span_end_zero : (At : ℕ → List ℕ → Type 0) (old new : MediumState)
    → new.contents ≡ overlay new.start new.past → Span At (length new.past) old new
    → At 0 new.contents
span_end_zero At old new replays span = grind (arith, common_steps)

-- what follows at each level
pub span_weaker : (At Bt : ℕ → List ℕ → Type 0) (split : ℕ) (old new : MediumState)
    → ((j : ℕ) (c : List ℕ) → At j c → Bt j c) → Span At split old new → Span Bt split old new
span_weaker At Bt split old new weaker span = grind (arith, common_steps)
