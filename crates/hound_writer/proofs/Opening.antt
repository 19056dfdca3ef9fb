-- A file that its caller has begun: all that was written to it is the header.
use Rattle.std.proofs.lemmas.Grind.{common_steps}
use Rattle.std.proofs.Common.{◌≡◌, ◌⊎◌, inl, inr, ℕ, ◌+◌, ◌≤◌, true, List, [], ◌∷◌, ◌++◌, length, take, drop, Result, Ok, Err, refl, sym, ◌∙◌, ap, subst, arith, append_assoc, length-append, length-drop, length-take, take-append-drop}
use Rattle.std.proofs.lemmas.List.{take_all}
use Rattle.std.specs.declared.io.Error.{Error as IoFault}
use Rattle.hound_medium.specs.{MediumState, PutsAll, Stays, overlay, placed}
use Rattle.hound_medium.proofs.Overlays.{overlay-append, placed-append}
use Rattle.hound_spec.specs.{data_start, header}
use Rattle.hound_spec.specs.declared.spec.WavSpecEx.{WavSpecEx}
use Rattle.hound_spec.proofs.HeaderLemmas.{data_start_least, length-header}
use Rattle.hound_writer.specs.Beginning.{DoesBeginning, DoesBeginnings, Empties, IsEmpty, at_beginning, beginning, header_part}
use Rattle.hound_writer.specs.declared.effects.BeginningEffect.{BeginningEffect}
use Rattle.hound_writer.specs.declared.effects.BeginningEffect.TheVariants.{Empty, Header, Sync, SyncFolder}
use Rattle.hound_writer.specs.Parts.{PutsAt}
use Rattle.hound_writer.specs.Recording.{Opened}

-- bytes that were written where the medium was
pub all_put : (bytes : List ℕ) (old new : MediumState) → old.place ≡ 0
    → PutsAt {T = Unit {0}} {E = IoFault} true 0 bytes (Ok tt) old new
    → PutsAll {T = Unit {0}} {E = IoFault} true bytes (Ok tt) old new
all_put bytes old new here puts = grind (arith, common_steps)

-- two runs of bytes, one after the other
pub both_put : (at next : ℕ) (first second : List ℕ) (a b c : MediumState) → next ≡ at + length first
    → PutsAt {T = Unit {0}} {E = IoFault} true at first (Ok tt) a b
    → PutsAt {T = Unit {0}} {E = IoFault} true next second (Ok tt) b c
    → PutsAt {T = Unit {0}} {E = IoFault} true at (first ++ second) (Ok tt) a c
both_put at next first second a b c after one two =
    grind (arith, common_steps, length-append, take_all, overlay-append, placed-append)

-- a list of at most 80 in two parts
two_parts : (l : List ℕ) → length l ≤ 80 → take 40 (drop 0 l) ++ take 40 (drop 40 l) ≡ l
two_parts l few =
    ap (λ (m : List ℕ). take 40 l ++ m) (take_all 40 (drop 40 l) (omega (arith, few, length-drop 40 l)))
    ∙ take-append-drop 40 l

-- a header has at most 68 bytes
data_start_most : (s : WavSpecEx) → data_start s ≤ 68
data_start_most s = grind (arith, common_steps)

-- the two parts of a header
parts_of_header : (s : WavSpecEx) → header_part s 0 ++ header_part s 40 ≡ header s 0 0
parts_of_header s =
    two_parts (header s 0 0) (omega (arith, length-header s 0 0, data_start_most s))

-- the first effect was done, and then the others
first_done : (s : WavSpecEx) (effect : BeginningEffect) (effects : List BeginningEffect) (old new : MediumState)
    → DoesBeginnings true s (effect ∷ effects) (Ok tt) old new
    → (mid : MediumState) × DoesBeginning true s effect (Ok tt) old mid × DoesBeginnings true s effects (Ok tt) mid new
first_done s effect effects old new given = grind (arith, common_steps)

-- the header was written to the medium as it was at its beginning
pub header_opened : (s : WavSpecEx) (old new : MediumState) → Opened s old new
    → PutsAt {T = Unit {0}} {E = IoFault} true 0 (header s 0 0) (Ok tt) (at_beginning old) new
header_opened s old new opened =
    let (named, stays, from_named) = first_done s SyncFolder (Empty ∷ Sync ∷ Header 0 ∷ Header 40 ∷ []) old new
    opened in
    let (emptied, empties, from_emptied) = first_done s Empty (Sync ∷ Header 0 ∷ Header 40 ∷ []) named new from_named in
    let (synced, flushes, from_synced) = first_done s Sync (Header 0 ∷ Header 40 ∷ []) emptied new from_emptied in
    let (first, one, from_first) = first_done s (Header 0) (Header 40 ∷ []) synced new from_synced in
    let (last, two, from_last) = first_done s (Header 40) [] first new from_first in
    let end : new ≡ last = from_last.1 in
    let h = header s 0 0 in
    let start = at_beginning old in
    let long : length h ≡ data_start s = length-header s 0 0 in
    let whole = parts_of_header s in
    let none = empties.done in
    let keeps = flushes.stays in
    let past : synced.past ≡ [] = keeps.past ∙ none.past refl in
    let from : PutsAt {T = Unit {0}} {E = IoFault} true 0 (header_part s 0) (Ok tt) start first = record {
      count = one.count;
      within = one.within;
      whole = one.whole;
      contents = one.contents
          ∙ ap (λ l. overlay l (placed 0 (take one.count (header_part s 0)))) (keeps.contents ∙ none.contents);
      place = one.place;
      start = one.start ∙ keeps.start ∙ none.start refl;
      past = λ t. one.past t ∙ ap (λ l. l ++ placed 0 (take one.count (header_part s 0))) past;
      flushed = one.flushed ∙ flushes.flushed ∙ ap length past;
      faults = one.faults ∙ flushes.faults ∙ empties.faults ∙ ap (λ (m : MediumState). m.faults) stays;
    } in
    let next : 40 ≡ 0 + length (header_part s 0) = omega (arith, long, data_start_least s, length-take 40 (drop 0 h)) in
    grind (arith, common_steps, both_put)

-- Of the header these bytes were written, up to a place; nothing else was.
pub record PutsFront (s : WavSpecEx) (old new : MediumState) : Type 0 where
  pub front : List ℕ
  pub rest : List ℕ
  pub parts : front ++ rest ≡ header s 0 0
  pub start : new.start ≡ old.start
  pub past : new.past ≡ old.past ++ placed 0 front

-- nothing was written yet
no_front : (s : WavSpecEx) (old new : MediumState) → new.start ≡ old.start → new.past ≡ old.past → PutsFront s old new
no_front s old new start past = grind (arith, common_steps)

-- the first part was written, or a beginning of it
front_of_first : {T E : Type 0} (s : WavSpecEx) (result : Result T E) (old mid new : MediumState)
    → mid.start ≡ old.start → mid.past ≡ old.past → PutsAt true 0 (header_part s 0) result mid new
    → PutsFront s old new
front_of_first s result old mid new start past puts =
    let bytes = header_part s 0 in
    record {
      front = take puts.count bytes;
      rest = drop puts.count bytes ++ header_part s 40;
      parts = sym (append_assoc (take puts.count bytes) (drop puts.count bytes) (header_part s 40))
          ∙ ap (λ l. l ++ header_part s 40) (take-append-drop puts.count bytes) ∙ parts_of_header s;
      start = puts.start ∙ start;
      past = puts.past refl ∙ ap (λ l. l ++ placed 0 (take puts.count bytes)) past;
    }

-- the second part was written after the first, or a beginning of it
front_of_last : {T E : Type 0} (s : WavSpecEx) (result : Result T E) (old mid new : MediumState)
    → mid.start ≡ old.start → mid.past ≡ old.past ++ placed 0 (header_part s 0)
    → PutsAt true 40 (header_part s 40) result mid new → PutsFront s old new
front_of_last s result old mid new start past puts =
    let first = header_part s 0 in
    let bytes = header_part s 40 in
    let next : 0 + length first ≡ 40 =
    omega (arith, length-header s 0 0, data_start_least s, length-take 40 (drop 0 (header s 0 0))) in
    record {
      front = first ++ take puts.count bytes;
      rest = drop puts.count bytes;
      parts = append_assoc first (take puts.count bytes) (drop puts.count bytes)
          ∙ ap (λ l. first ++ l) (take-append-drop puts.count bytes) ∙ parts_of_header s;
      start = puts.start ∙ start;
      past = grind (arith, common_steps, append_assoc, placed-append);
    }

-- what the effects write, up to the first that fails
front_from_last : (s : WavSpecEx) (result : Result (Unit {0}) IoFault) (old mid new : MediumState)
    → mid.start ≡ old.start → mid.past ≡ old.past ++ placed 0 (header_part s 0)
    → DoesBeginnings true s (Header 40 ∷ []) result mid new → PutsFront s old new
front_from_last s result old mid new start past (last, Ok x, puts, others) =
    subst (λ m. PutsFront s old m) (sym others.1) (front_of_last s (Ok x) old mid last start past puts)
front_from_last s result old mid new start past (last, Err e, puts, others) =
    subst (λ m. PutsFront s old m) (sym others.1) (front_of_last s (Err e) old mid last start past puts)

front_from_first : (s : WavSpecEx) (result : Result (Unit {0}) IoFault) (old mid new : MediumState)
    → mid.start ≡ old.start → mid.past ≡ old.past
    → DoesBeginnings true s (Header 0 ∷ Header 40 ∷ []) result mid new → PutsFront s old new
front_from_first s result old mid new start past (first, Ok x, puts, others) =
    let bytes = header_part s 0 in
    let all : take puts.count bytes ≡ bytes =
    ap (λ n. take n bytes) puts.whole ∙ take_all (length bytes) bytes (omega arith) in
    front_from_last s result old first new (puts.start ∙ start)
    (puts.past refl ∙ ap (λ l. l ++ placed 0 (take puts.count bytes)) past ∙ ap (λ l. old.past ++ placed 0 l) all)
    others
front_from_first s result old mid new start past (first, Err e, puts, others) =
    subst (λ m. PutsFront s old m) (sym others.1) (front_of_first s (Err e) old mid first start past puts)

front_from_sync : (s : WavSpecEx) (result : Result (Unit {0}) IoFault) (old new : MediumState)
    → DoesBeginnings true s (Sync ∷ Header 0 ∷ Header 40 ∷ []) result old new → PutsFront s old new
front_from_sync s result old new (synced, Ok x, flushes, others) =
    front_from_first s result old synced new flushes.stays.start flushes.stays.past others
front_from_sync s result old new (synced, Err e, flushes, others) =
    subst (λ m. PutsFront s old m) (sym others.1) (no_front s old synced flushes.stays.start flushes.stays.past)

-- a file in which nothing was written before
abbrev IsUnwritten : MediumState → Type 0
IsUnwritten m = (m.start ≡ []) × (m.past ≡ [])

front_as : (s : WavSpecEx) (old mid new : MediumState) → IsUnwritten old → IsUnwritten mid → PutsFront s mid new
    → PutsFront s old new
front_as s old mid new (none, never) (empty, nothing) b = record {
  front = b.front;
  rest = b.rest;
  parts = b.parts;
  start = b.start ∙ empty ∙ sym none;
  past = b.past ∙ ap (λ l. l ++ placed 0 b.front) (nothing ∙ sym never);
}

-- a cut leaves nothing of it
unwritten : (result : Result (Unit {0}) IoFault) (old new : MediumState) → IsUnwritten old → Empties true result old new
    → IsUnwritten new
unwritten result old new (none, never) empties = by empties.leaves
  where
    by : IsEmpty true new ⊎ Stays old new → IsUnwritten new
    by (inl empty) = (empty.start refl, empty.past refl)
    by (inr stays) = (stays.start ∙ none, stays.past ∙ never)

front_from_empty : (s : WavSpecEx) (result : Result (Unit {0}) IoFault) (old new : MediumState) → IsUnwritten old
    → DoesBeginnings true s (Empty ∷ Sync ∷ Header 0 ∷ Header 40 ∷ []) result old new → PutsFront s old new
front_from_empty s result old new none (emptied, Ok x, empties, others) =
    front_as s old emptied new none (unwritten (Ok x) old emptied none empties)
    (front_from_sync s result emptied new others)
front_from_empty s result old new none (emptied, Err e, empties, others) =
    front_as s old emptied new none (unwritten (Err e) old emptied none empties)
    (subst (λ m. PutsFront s emptied m) (sym others.1) (no_front s emptied emptied refl refl))

pub front_begun : (s : WavSpecEx) (result : Result (Unit {0}) IoFault) (old new : MediumState)
    → old.start ≡ [] → old.past ≡ [] → DoesBeginnings true s beginning result old new → PutsFront s old new
front_begun s result old new none never (named, Ok x, stays, others) =
    front_from_empty s result old new (none, never)
    (subst (λ m. DoesBeginnings true s (Empty ∷ Sync ∷ Header 0 ∷ Header 40 ∷ []) result m new) stays others)
front_begun s result old new none never (named, Err e, stays, others) =
    let is = others.1 ∙ stays in
    no_front s old new (ap (λ (m : MediumState). m.start) is) (ap (λ (m : MediumState). m.past) is)
