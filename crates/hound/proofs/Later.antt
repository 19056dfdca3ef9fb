-- From one state of a medium to a later one: bytes were appended to the past, and faults counted.
use Rattle.std.proofs.lemmas.Grind.{common_steps}
use Rattle.std.proofs.Common.{◌≡◌, ℕ, ◌≤◌, List, [], length, refl, sym, ap, arith, inl, length-append, Result}
use Rattle.std.specs.Prelude.{⊤}
use Rattle.std.proofs.lemmas.List.{append-nil}
use Rattle.hound_spec.specs.declared.error.Error.{Error}
use Rattle.hound_medium.specs.{moment, MediumState, Span}
use Rattle.hound_medium.proofs.Spans.{join}
use Rattle.hound_writer.specs.{faults_reported}
use Rattle.hound.specs.Headline.{NoFault}

-- from one state of a medium to a later one bytes were appended to the past
abbrev pub Later : MediumState → MediumState → Type 0
Later old new = Span (λ _ _. ⊤) 0 old new

pub later_still : (a : MediumState) → Later a a
later_still a = record {
  start = refl;
  added = [];
  past = sym (append-nil a.past);
  flushed = inl refl;
  each = λ _ _ _. tt;
}

pub later_then : (a b c : MediumState) → Later a b → Later b c → Later a c
later_then a b c = join (λ _ _. ⊤) 0 a b c

pub span_later : (At : ℕ → List ℕ → Type 0) (split : ℕ) (old new : MediumState) → Span At split old new → Later old new
span_later At split old new span =
    record {
      start = span.start;
      added = span.added;
      past = span.past;
      flushed = span.flushed;
      each = λ _ _ _. tt;
    }

pub longer : (a b : MediumState) → Later a b → length a.past ≤ length b.past
longer a b l = omega (arith, ap length l.past, length-append a.past l.added)

-- an earlier state stays what it was
pub same_moment : (old new : MediumState) (k : ℕ) → Later old new → k ≤ length old.past
    → moment old.start old.past k ≡ moment new.start new.past k
same_moment old new k later before = grind (arith, common_steps)

-- faults only grow, up to the largest count
abbrev pub FaultsGrow : MediumState → MediumState → Type 0
FaultsGrow old new =
    old.faults ≤ 18446744073709551615 → (old.faults ≤ new.faults)
    × (new.faults ≤ 18446744073709551615)

pub grows_reported : (answer : Result (Unit {0}) Error) (old new : MediumState)
    → new.faults ≡ faults_reported answer old.faults → FaultsGrow old new
grows_reported answer old new is = grind (arith, common_steps)

pub grow_then : (a b c : MediumState) → FaultsGrow a b → FaultsGrow b c → FaultsGrow a c
grow_then a b c first then small = grind (arith, common_steps)

-- no fault in the whole is none in either part
pub no_fault_parts : (a b c : MediumState) → FaultsGrow a b → FaultsGrow b c → NoFault a c → NoFault a b × NoFault b c
no_fault_parts a b c first then (same, small) = grind (arith, common_steps)
