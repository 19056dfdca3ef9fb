-- What a loss of power leaves, from what holds in each state that it may mix.
use Rattle.std.proofs.lemmas.Grind.{common_steps}
use Rattle.std.proofs.Common.{◌≡◌, ℕ, zero, suc, ◌+◌, ◌-◌, ◌/◌, ◌<◌, ◌≤◌, ◌⊎◌, inl, inr, List, [], ◌∷◌, ◌++◌, length, get_or, take, drop, refl, sym, ◌∙◌, ap, subst, arith, length-drop, length-take, take-append-drop}
use Rattle.std.proofs.lemmas.Bool.{cases_lt}
use Rattle.std.proofs.lemmas.List.{length-take-le, take-take, get_or-take, get_or-drop, ext_get_or}
use Rattle.std.proofs.lemmas.Slice.{between_is}
use Rattle.hound_number.specs.{number}
use Rattle.hound_spec.specs.declared.spec.WavSpecEx.{WavSpecEx}
use Rattle.hound_medium.specs.{moment, put_at, overlay}
use Rattle.hound_medium.proofs.Overlays.{front_part, length-put_at, overlay-append, overlay_more, take_overlay_before}
use Rattle.hound_medium.proofs.Inside.{drop_beyond}
use Rattle.hound_walk.specs.{Head}
use Rattle.hound_writer.specs.{ChangesSizesOnly, field, IsStored}
use Rattle.hound_writer.proofs.Heads.{head_with}
use Rattle.hound_durable.specs.{Ascends, SurvivesLoss, place_of}

-- A part of what a loss of power leaves, if the states that its sectors are from have it all.
pub part_survives : (p n sector f k : ℕ) (d start : List ℕ) (past : List (ℕ × ℕ)) (c : List ℕ)
    → length d ≡ n → p + n ≤ length c → (lost : SurvivesLoss sector start past f k c)
    → ((i : ℕ) → i < n → take n (drop p (moment start past (lost.sectors ((p + i) / sector)).0)) ≡ d)
    → take n (drop p c) ≡ d
part_survives p n sector f k d start past c size inside lost each =
    let long : length (take n (drop p c)) ≡ n = length-take-le n (drop p c) (omega (arith, inside, length-drop p c)) in
    ext_get_or 0 (take n (drop p c)) d (long ∙ sym size)
    (λ i few.
    let less : i < n = omega (arith, few, long) in
    let s = lost.sectors ((p + i) / sector) in
    let at = moment start past s.0 in
    get_or-take n (drop p c) i 0 less ∙ get_or-drop p c i 0
    ∙ s.3 (p + i) refl (omega (arith, less, inside))
    ∙ sym (get_or-take n (drop p at) i 0 less ∙ get_or-drop p at i 0)
    ∙ ap (λ l. get_or l i 0) (each i less))

-- what is stored in each of these states is stored in whatever a loss of power leaves of them
pub stored_survives : (h n sector f k : ℕ) (bytes start : List ℕ) (past : List (ℕ × ℕ)) (c : List ℕ)
    → n ≤ length bytes → SurvivesLoss sector start past f k c
    → ((j : ℕ) → f ≤ j → j ≤ k → IsStored h bytes 0 n (moment start past j))
    → IsStored h bytes 0 n c
stored_survives h zero sector f k bytes start past c few lost each = refl
stored_survives h (suc n) sector f k bytes start past c few lost each =
    let l = lost.long in
    let longest = moment start past l.0 in
    let size = length-take-le (suc n) bytes few in
    part_survives (h + 0) (suc n) sector f k (take (suc n) bytes) start past c size
    (omega (
      arith,
      l.3,
      ap length (each l.0 l.1 l.2),
      size,
      length-take (suc n) (drop (h + 0) longest),
      length-drop (h + 0) longest,
    )) lost (λ i less. let s = lost.sectors ((h + 0 + i) / sector) in each s.0 s.1 s.2)

-- contents get no shorter as bytes are written
length_overlay : (es : List (ℕ × ℕ)) (c : List ℕ) → length c ≤ length (overlay c es)
length_overlay [] c = omega arith
length_overlay (e ∷ es) c =
    omega (arith, length_overlay es (put_at e.0 e.1 c), length-put_at e.0 e.1 c)

pub moments_grow : (start : List ℕ) (past : List (ℕ × ℕ)) (i k : ℕ) → i ≤ k
    → length (moment start past i) ≤ length (moment start past k)
moments_grow start past i k le =
    let first = take i past in
    let parts : take k past ≡ first ++ drop i (take k past) = sym (take-append-drop i (take k past))
    ∙ ap (λ l. l ++ drop i (take k past)) (take-take i k past le) in
    omega (
      arith,
      length_overlay (drop i (take k past)) (overlay start first),
      ap (λ l. length (overlay start l)) parts,
      ap length (overlay-append start first (drop i (take k past))),
    )

-- a state, and the byte that is written next
next : (start : List ℕ) (past : List (ℕ × ℕ)) (m : ℕ) → m < length past
    → (b : ℕ) × (moment start past (suc m) ≡ put_at (place_of past m) b (moment start past m))
next start past m less =
    let e : m + 1 ≡ suc m = omega arith in
    let x : ℕ × ℕ = get_or past m (0, 0) in
    (x.1, ap (moment start past) (sym e) ∙ overlay_more start past m (0, 0) less)

longer_then : {P : Type 0} (n : ℕ) (a b : List ℕ) → length a ≤ length b → P ⊎ (n < length a) → P ⊎ (n < length b)
longer_then n a b le given = grind (arith, common_steps)

-- States from f to k between which bytes went to ascending places, with all that is before the data.
module _ (h f k : ℕ) (start : List ℕ) (past : List (ℕ × ℕ)) (beyond : 20 ≤ h)
    (within : k ≤ length past) (ascends : Ascends past f k)
    (long : (j : ℕ) → f ≤ j → j ≤ k → h ≤ length (moment start past j)) where
  -- What holds of a state since it holds of the next one, where a byte before the data is written, and else since its
  -- data length is that of a later state.
  back : (j : ℕ) (X : ℕ → Type 0) → ((m : ℕ) → f ≤ m → m < k → place_of past m < h → X (suc m) → X m)
      → ((m : ℕ) → f ≤ m → m ≤ j → field (h - 4) (moment start past m) ≡ field (h - 4) (moment start past j) → X m)
      → (d m : ℕ) → f ≤ m → m + d ≡ j → j ≤ k
      → X m × (((t : ℕ) → m ≤ t → t < j → h ≤ place_of past t)
      → field (h - 4) (moment start past m) ≡ field (h - 4) (moment start past j))
  back j X over same zero m from is to =
      let e : m ≡ j = omega (arith, is) in
      let says = ap (λ m. field (h - 4) (moment start past m)) e in
      (same m from (omega (arith, e)) says, λ _. says)
  back j X over same (suc d) m from is to =
      let rest = back j X over same d (suc m) (omega (arith, from)) (omega (arith, is)) to in
      let less : m < k = omega (arith, is, to) in
      let p = place_of past m in
      elim (cases_lt p h) [
        | inl low ↦ (
          over m from less low rest.0,
          λ high. absurd (omega (arith, low, high m (omega arith) (omega (arith, is)))),
        )
        | inr high ↦ let at = moment start past in
            let one = next start past m (omega (arith, less, within)) in
            let front : take h (at (suc m)) ≡ take h (at m) = ap (take h) one.1
            ∙ take_overlay_before (one.0 ∷ []) h p (at m) high (long m from (omega (arith, less))) in
            let says : field (h - 4) (at m) ≡ field (h - 4) (at j) =
            sym (ap number (front_part h (h - 4) 4 (at (suc m)) (at m) (omega (arith, beyond)) front))
            ∙ rest.1 (λ t le before.
            omega (arith, high, ascends m t from (omega (arith, le)) (omega (arith, before, to)))) in
            (same m from (omega (arith, is)) says, λ _. says)
      ]

  -- If in each state the data length is n or more than that is held, that is so of the data length of one state and of
  -- what another holds.
  pub either_survives : (n : ℕ) → ((j : ℕ) → f ≤ j → j ≤ k → (field (h - 4) (moment start past j) ≡ n)
      ⊎ (h + n < length (moment start past j)))
      → (j m : ℕ) → f ≤ j → j ≤ k → f ≤ m → m ≤ k
      → (field (h - 4) (moment start past j) ≡ n) ⊎ (h + n < length (moment start past m))
  either_survives n either j m from to since until =
      let at = moment start past in
      elim (cases_lt m j) [
        | inr after ↦ longer_then (h + n) (at j) (at m) (moments_grow start past j m after) (either j from to)
        | inl before ↦ (back j (λ m. (field (h - 4) (at j) ≡ n) ⊎ (h + n < length (at m))) (λ m from less low.
            let one = next start past m (omega (arith, less, within)) in
            longer_then (h + n) (at (suc m)) (at m) (omega (
              arith,
              low,
              long m from (omega (arith, less)),
              ap length one.1,
              length-put_at (place_of past m) one.0 (at m),
            )))
            (λ m from le same. subst (λ v. (v ≡ n) ⊎ (h + n < length (at m))) same
            (either m from (omega (arith, le, to)))) (j - m) m since (omega (arith, before)) to).0
      ]

-- A file whose data begin at h, whose past has bytes at ascending places from f to k: in each of these states what the
-- data length covers of these bytes is stored, and stays so.
module _ (h : ℕ) (bytes base start : List ℕ) (past : List (ℕ × ℕ)) (cover : ℕ → ℕ) (f k : ℕ)
    (beyond : 20 ≤ h) (within : k ≤ length past) (ascends : Ascends past f k)
    (long : (j : ℕ) → f ≤ j → j ≤ k → h ≤ length (moment start past j))
    (few : (j : ℕ) → f ≤ j → j ≤ k → cover (field (h - 4) (moment start past j)) ≤ length bytes)
    (kept : (j m : ℕ) → f ≤ j → j ≤ m → m ≤ k
    → take (cover (field (h - 4) (moment start past j))) (drop h (moment start past m))
    ≡ take (cover (field (h - 4) (moment start past j))) bytes)
    (changes : (j : ℕ) → f ≤ j → j ≤ k → ChangesSizesOnly h base (moment start past j)) where
  abbrev at : ℕ → List ℕ
  at j = moment start past j

  abbrev says : ℕ → ℕ
  says j = field (h - 4) (at j)

  -- what a later state's data length covers was stored in each earlier one
  earlier : (j m : ℕ) → f ≤ m → m ≤ j → j ≤ k → take (cover (says j)) (drop h (at m)) ≡ take (cover (says j)) bytes
  earlier j m from le to =
      (back h f k start past beyond within ascends long j
      (λ m. take (cover (says j)) (drop h (at m)) ≡ take (cover (says j)) bytes)
      (λ m from less low rest.
      let one = next start past m (omega (arith, less, within)) in
      ap (take (cover (says j))) (sym (ap (drop h) one.1 ∙ drop_beyond (at m) (place_of past m) (one.0 ∷ [])
      (omega (arith, low, long m from (omega (arith, less)))) h (omega (arith, low)))) ∙ rest)
      (λ m from before same. subst (λ v. take (cover v) (drop h (at m)) ≡ take (cover v) bytes) same
      (kept m m from (omega arith) (omega (arith, before, to)))) (j - m) m from (omega (arith, le)) to).0

  -- what the data length of any state covers is stored in each state
  anywhere : (j m : ℕ) → f ≤ j → j ≤ k → f ≤ m → m ≤ k
      → take (cover (says j)) (drop h (at m)) ≡ take (cover (says j)) bytes
  anywhere j m from to since until = grind (arith, common_steps, cases_lt, earlier)

  -- so the contents have it all
  reaches : (j m : ℕ) → f ≤ j → j ≤ k → f ≤ m → m ≤ k → h + cover (says j) ≤ length (at m)
  reaches j m from to since until = grind (arith, common_steps, anywhere, length-take, length-drop)

  module _ (sector : ℕ) (some : 1 ≤ sector) (one : (h - 4) / sector ≡ (h - 1) / sector)
      (c : List ℕ) (lost : SurvivesLoss sector start past f k c) where
    -- the state that the data length is from
    abbrev chosen : ℕ
    chosen = (lost.sectors ((h - 4) / sector)).0

    chosen_from : f ≤ chosen
    chosen_from = (lost.sectors ((h - 4) / sector)).1

    chosen_to : chosen ≤ k
    chosen_to = (lost.sectors ((h - 4) / sector)).2

    -- the contents are as long as what it covers
    inside : h + cover (says chosen) ≤ length c
    inside = grind (arith, common_steps, reaches, chosen_from, chosen_to)

    in_field : (i : ℕ) → i < 4 → (h - 4 + i) / sector ≡ (h - 4) / sector
    in_field i less = grind (arith, common_steps)

    -- the data length is that of this state
    pub says_chosen : field (h - 4) c ≡ says chosen
    says_chosen =
        let there = long chosen chosen_from chosen_to in
        ap number
        (part_survives (h - 4) 4 sector f k (take 4 (drop (h - 4) (at chosen))) start past c
        (length-take-le 4 (drop (h - 4) (at chosen)) (omega (arith, there, beyond, length-drop (h - 4) (at chosen))))
        (omega (arith, inside, beyond)) lost
        (λ i less. ap (λ n. take 4 (drop (h - 4) (at (lost.sectors n).0))) (in_field i less)))

    -- what it covers is stored
    stored_after : take (cover (field (h - 4) c)) (drop h c) ≡ take (cover (field (h - 4) c)) bytes
    stored_after =
        let n = cover (says chosen) in
        subst (λ v. take (cover v) (drop h c) ≡ take (cover v) bytes) (sym says_chosen)
        (part_survives h n sector f k (take n bytes) start past c
        (length-take-le n bytes (few chosen chosen_from chosen_to)) inside lost
        (λ i less. let s = lost.sectors ((h + i) / sector) in anywhere chosen s.0 chosen_from chosen_to s.1 s.2))

    -- and so is the head
    head_after : (s : WavSpecEx) (len : ℕ) → Head base s len h → h ≤ length base → Head c s (field (h - 4) c) h
    head_after s len head whole =
        let n = h - 4 - 8 in
        let middle = take n (drop 8 base) in
        let front : take 4 c ≡ take 4 base = part_survives 0 4 sector f k (take 4 base) start past c
        (length-take-le 4 base (omega (arith, whole, beyond))) (omega (arith, inside, beyond)) lost
        (λ i less. let s = lost.sectors ((0 + i) / sector) in (changes s.0 s.1 s.2).front) in
        let rest : take n (drop 8 c) ≡ middle = part_survives 8 n sector f k middle start past c
        (length-take-le n (drop 8 base) (omega (arith, whole, beyond, length-drop 8 base)))
        (omega (arith, inside, beyond)) lost
        (λ i less. let s = lost.sectors ((8 + i) / sector) in
        between_is (at s.0) 8 (h - 4) ∙ (changes s.0 s.1 s.2).middle
        ∙ sym (between_is base 8 (h - 4))) in
        head_with base s len h head c (omega (arith, inside)) front
        (sym (between_is c 8 (h - 4)) ∙ rest ∙ between_is base 8 (h - 4))

    pub left_after : (s : WavSpecEx) (len : ℕ) → Head base s len h → h ≤ length base → (field (h - 4) c ≡ says chosen)
        × (take (cover (field (h - 4) c)) (drop h c) ≡ take (cover (field (h - 4) c)) bytes)
        × (cover (field (h - 4) c) ≤ length bytes) × Head c s (field (h - 4) c) h
    left_after s len head whole = grind (
      arith,
      common_steps,
      says_chosen,
      stored_after,
      chosen_from,
      chosen_to,
      head_after,
    )
