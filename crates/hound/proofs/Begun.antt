-- What a loss of power leaves of a file within its beginning.
use Rattle.std.proofs.lemmas.Grind.{common_steps}
use Rattle.std.proofs.Common.{◌≡◌, ◌⊎◌, ◌&&◌, Option, None, Some, Ok, Err, is_ok, sym, false, ℕ, zero, suc, ◌+◌, ◌-◌, ◌/◌, ◌<◌, ◌≤◌, true, List, [], ◌∷◌, ◌++◌, length, get_or, take, drop, Result, refl, ◌∙◌, ap, subst, arith, append_assoc, length-append, length-drop, length-take}
use Rattle.std.proofs.lemmas.Bool.{cases_lt}
use Rattle.std.proofs.lemmas.List.{get_or_append_left, get_or-append_right, get_or_past, get_or-take, get_or-drop}
use Rattle.std.specs.declared.io.Error.{Error as IoFault}
use Rattle.hound_number.specs.{bytes_of, number}
use Rattle.hound_spec.specs.{data_start, header, riff_tag}
use Rattle.hound_spec.specs.declared.spec.WavSpecEx.{WavSpecEx}
use Rattle.hound_spec.proofs.HeaderLemmas.{data_start_least, described, header-parts, length-described, length-header}
use Rattle.hound_medium.specs.{MediumState, moment, overlay, placed}
use Rattle.hound_medium.proofs.Overlays.{length-put_at, overlay_at_end, take-placed}
use Rattle.hound_durable.specs.{SurvivesLoss}
use Rattle.hound_writer.specs.{DoesBeginnings, HasAtMostHeader, LeavesBeginning, Opened, Remains, beginning, stores_name}
pub use Rattle.hound_repair.proofs.Performing.{nth_next}
use Rattle.hound_writer.proofs.Opening.{front_begun}

-- bytes that are all zero
zero_number : (l : List ℕ) → ((i : ℕ) → i < length l → get_or l i 0 ≡ 0) → number l ≡ 0
zero_number [] all = refl
zero_number (b ∷ l) all =
    omega (arith, all 0 (omega arith), zero_number l (λ i less. all (suc i) (omega (arith, less))))

-- the last bytes of a header without samples are the data length
zero_at : (s : WavSpecEx) (i : ℕ) → data_start s - 4 ≤ i → get_or (header s 0 0) i 0 ≡ 0
zero_at s i from =
    let front = riff_tag ++ (bytes_of 4 0 ++ described s) in
    let least = data_start_least s in
    let long : length front ≡ data_start s - 4 =
    grind (arith, common_steps, length-append, described, length-described) in
    let whole : header s 0 0 ≡ front ++ bytes_of 4 0 =
    grind (arith, common_steps, append_assoc, described, header-parts) in
    ap (λ l. get_or l i 0) whole ∙ get_or-append_right front (bytes_of 4 0) (data_start s - 4) i 0 long from
    ∙ zeros (i - (data_start s - 4))
  where
    zeros : (i : ℕ) → get_or (bytes_of 4 0) i 0 ≡ 0
    zeros zero = refl
    zeros (suc zero) = refl
    zeros (suc (suc zero)) = refl
    zeros (suc (suc (suc zero))) = refl
    zeros (suc (suc (suc (suc i)))) = refl

-- a beginning of the header has no other bytes than the header
front_zero : (s : WavSpecEx) (front rest : List ℕ) (i : ℕ) → front ++ rest ≡ header s 0 0
    → data_start s - 4 ≤ i → get_or front i 0 ≡ 0
front_zero s front rest i parts from =
    grind (arith, common_steps, get_or, cases_lt, get_or_append_left, get_or_past, zero_at)

-- a file without bytes of which these were written
module _ (s : WavSpecEx) (front rest : List ℕ) (parts : front ++ rest ≡ header s 0 0) where
  at_moment : (j : ℕ) → moment [] (placed 0 front) j ≡ take j front
  at_moment j = ap (overlay []) (take-placed j 0 front) ∙ overlay_at_end [] 0 (take j front) refl

  left_zero : (j i : ℕ) → data_start s - 4 ≤ i → get_or (moment [] (placed 0 front) j) i 0 ≡ 0
  left_zero j i from =
      grind (
        arith,
        common_steps,
        get_or,
        length-take,
        cases_lt,
        get_or_past,
        get_or-take,
        front_zero,
        at_moment,
      )

  -- what was written of it is the header's, and zeros are elsewhere
  left_byte : (j i : ℕ) → (get_or (moment [] (placed 0 front) j) i 0 ≡ get_or (header s 0 0) i 0)
      ⊎ (get_or (moment [] (placed 0 front) j) i 0 ≡ 0)
  left_byte j i =
      grind (
        arith,
        common_steps,
        get_or,
        length-take,
        cases_lt,
        get_or_append_left,
        get_or_past,
        get_or-take,
        parts,
        at_moment,
      )

  begins_left : (sector f k : ℕ) (left : List ℕ) → SurvivesLoss sector [] (placed 0 front) f k left
      → HasAtMostHeader s left
  begins_left sector f k left lost =
      let p = data_start s - 4 in
      let l = lost.long in
      let few : length left ≤ data_start s = omega (
        arith,
        l.3,
        ap length (at_moment l.0),
        length-take l.0 front,
        ap length parts,
        length-append front rest,
        length-header s 0 0,
      ) in record {
        long = few;
        bytes = λ i less.
            let (j, low, high, from) = lost.sectors (i / sector) in
            subst (λ b. (b ≡ get_or (header s 0 0) i 0) ⊎ (b ≡ 0)) (sym (from i refl less)) (left_byte j i);
        none = zero_number (take 4 (drop p left)) (λ i less. let inside : p + i < length left =
            omega (arith, less, length-take 4 (drop p left), length-drop p left) in
            let four : i < 4 = omega (arith, less, length-take 4 (drop p left)) in
            let from = lost.sectors ((p + i) / sector) in
            get_or-take 4 (drop p left) i 0 four ∙ get_or-drop p left i 0 ∙ from.3 (p + i) refl inside
            ∙ left_zero from.0 (p + i) (omega arith));
      }

-- contents get no shorter as bytes are written
nothing_before : (c : List ℕ) (past : List (ℕ × ℕ)) → overlay c past ≡ [] → (c ≡ []) × (past ≡ [])
nothing_before [] [] none = (refl, refl)
nothing_before (x ∷ c) [] none = absurd (cc none)
nothing_before c (e ∷ past) none =
    let next = nothing_before _ past none in
    absurd (omega (arith, ap length next.0, length-put_at e.0 e.1 c))

-- only an error may leave no file, since the name is stored first
no_file : (result : Result (Unit {0}) IoFault) → (is_ok result && stores_name beginning) ≡ false → is_ok result ≡ false
no_file (Ok x) is = is
no_file (Err e) is = refl

pub begun_survives : (s : WavSpecEx) (old new : MediumState) (result : Result (Unit {0}) IoFault)
    → overlay old.start old.past ≡ [] → DoesBeginnings true s beginning result old new → (sector : ℕ)
    (left : Option (List ℕ)) → Remains (is_ok result && stores_name beginning) sector new left
    → LeavesBeginning result s left
begun_survives s old new result none does sector None lost = no_file result lost
begun_survives s old new result none does sector (Some left) lost =
    let (start, past) = nothing_before old.start old.past none in
    let b = front_begun s result old new start past does in
    let started : new.start ≡ [] = b.start ∙ start in
    let put : new.past ≡ placed 0 b.front = b.past ∙ ap (λ l. l ++ placed 0 b.front) past in
    begins_left s b.front b.rest b.parts sector new.flushed (length new.past) left
    (subst (λ (m : List ℕ × List (ℕ × ℕ)). SurvivesLoss sector m.0 m.1 new.flushed (length new.past) left)
    (λ i. (started i, put i)) lost)

-- no more is flushed of a file that was begun than was written
pub begun_within : (s : WavSpecEx) (old new : MediumState) → Opened s old new → new.flushed ≤ length new.past
begun_within s old new opened = grind (arith, common_steps)
