-- Bytes that stay stored, call after call.
use Rattle.std.proofs.lemmas.Grind.{common_steps}
use Rattle.std.proofs.Common.{◌≡◌, ℕ, zero, suc, ◌+◌, ◌-◌, ◌<◌, ◌≤◌, inl, inr, List, [], ◌∷◌, ◌++◌, length, get_or, take, drop, refl, sym, ◌∙◌, ap, subst, arith, length-append, length-drop, length-take}
use Rattle.std.proofs.lemmas.Bool.{cases_lt}
use Rattle.std.proofs.lemmas.List.{drop-drop, length-take-le, get_or-take, get_or-drop, get_or-append-add}
use Rattle.std.proofs.Math.Seq.{get_or-append_right}
use Rattle.std.specs.List.{concat}
use Rattle.hound_medium.specs.{moment, placed, put_at, MediumState}
use Rattle.hound_medium.proofs.Overlays.{front_part, overlay_more}
use Rattle.hound_medium.proofs.Spans.{moment_before}
use Rattle.hound_durable.specs.{place_of}
use Rattle.hound_writer.specs.Accepting.{IsStored, StaysStored, StaysTrue}
use Rattle.hound_writer.specs.Writer.{WriterState, IsSound, IsWhole, accepted_bytes, accepted_samples}
use Rattle.hound_writer.proofs.Containers.{joined_bytes}
use Rattle.hound_writer.proofs.Samples.{length-accepted}
use Rattle.hound_durable.proofs.Ascending.{length_put, place_after}

-- the byte with this number among all bytes written
abbrev byte_of : List (ℕ × ℕ) → ℕ → ℕ
byte_of past i = let x : ℕ × ℕ = get_or past i (0, 0) in x.1

-- bytes at the front stay if the byte written is elsewhere, or is the right one
same_front : (q b : ℕ) (xs c : List ℕ) → (q < length xs → get_or xs q 0 ≡ b)
    → take (length xs) c ≡ xs → take (length xs) (put_at q b c) ≡ xs
same_front q b [] c right here = refl
same_front q b (x ∷ xs) [] right here = cc
same_front zero b (x ∷ xs) (y ∷ c) right here =
    let e : x ≡ b = right (omega arith) in
    let t : take (length xs) c ≡ xs = cc in
    cc
same_front (suc q) b (x ∷ xs) (y ∷ c) right here =
    let t : take (length xs) c ≡ xs = cc in
    let rest : take (length xs) (put_at q b c) ≡ xs = same_front q b xs c (λ few. right (omega (arith, few))) t in
    cc

-- and so do bytes at a place
same_at : (p q b : ℕ) (xs c : List ℕ) → ((i : ℕ) → q ≡ p + i → i < length xs → get_or xs i 0 ≡ b)
    → take (length xs) (drop p c) ≡ xs → take (length xs) (drop p (put_at q b c)) ≡ xs
same_at zero q b xs c right here = same_front q b xs c (right q (omega arith)) here
same_at (suc p) q b [] c right here = refl
same_at (suc p) q b (x ∷ xs) [] right here = cc
same_at (suc p) zero b (x ∷ xs) (y ∷ c) right here = here
same_at (suc p) (suc q) b (x ∷ xs) (y ∷ c) right here =
    same_at p q b (x ∷ xs) c (λ i at few. right i (omega (arith, at)) few) here

-- what each byte written keeps true stays true
steps_stay : (P : List ℕ → Type 0) (old new : MediumState)
    → ((k : ℕ) → length old.past ≤ k → k < length new.past → P (moment new.start new.past k)
    → P (put_at (place_of new.past k) (byte_of new.past k) (moment new.start new.past k)))
    → StaysTrue P old new
steps_stay P old new step k m from le to here =
    let at : k + (m - k) ≡ m = omega (arith, le) in
    subst (λ j. P (moment new.start new.past j)) at (go (m - k) k from (omega (arith, le, to)) here)
  where
    go : (n k : ℕ) → length old.past ≤ k → k + n ≤ length new.past
        → P (moment new.start new.past k) → P (moment new.start new.past (k + n))
    go zero k from to here =
        let e : k ≡ k + 0 = omega arith in
        subst (λ j. P (moment new.start new.past j)) e here
    go (suc n) k from to here =
        let e : k + 1 + n ≡ k + suc n = omega arith in
        let few : k < length new.past = omega (arith, to) in
        subst (λ j. P (moment new.start new.past j)) e
        (go n (k + 1) (omega (arith, from)) (omega (arith, to))
        (rw (overlay_more new.start new.past k (0, 0) few) (step k from few here)))

byte_placed : (at : ℕ) (bytes : List ℕ) (j : ℕ) → j < length bytes → byte_of (placed at bytes) j ≡ get_or bytes j 0
byte_placed at [] j few = absurd (omega (arith, few))
byte_placed at (b ∷ bytes) zero few = refl
byte_placed at (b ∷ bytes) (suc j) few = byte_placed (suc at) bytes j (omega (arith, few))

-- bytes that are written at their own places keep what is stored of them, and of those before them
pub puts_stored : (start at : ℕ) (before bytes : List ℕ) (count : ℕ) (old new : MediumState)
    → start + length before ≡ at → new.past ≡ old.past ++ placed at (take count bytes)
    → StaysStored start (before ++ bytes) old new
puts_stored start at before bytes count old new is past a len within =
    let all = before ++ bytes in
    let xs = take len (drop a all) in
    let put = take count bytes in
    let size : length xs ≡ len = length-take-le len (drop a all) (omega (arith, within, length-drop a all)) in
    steps_stay (IsStored start all a len) old new
    (λ k from to here.
    let j = k - length old.past in
    let few : j < length put = omega (
      arith,
      from,
      to,
      ap length past,
      length_put old.past at put,
    ) in
    let place : place_of new.past k ≡ at + j = ap (λ l. place_of l k) past
    ∙ place_after old.past at put k from (omega (arith, few)) in
    let byte : byte_of new.past k ≡ get_or bytes j 0 = ap (λ l. byte_of l k) past
    ∙ ap (λ (x : ℕ × ℕ). x.1) (get_or-append_right old.past (placed at put) k (0, 0) from) ∙ byte_placed at put j few
    ∙ get_or-take count bytes j 0 (omega (arith, few, length-take count bytes)) in
    let right : (i : ℕ) → place_of new.past k ≡ start + a + i → i < length xs → get_or xs i 0 ≡ byte_of new.past k =
    λ i here inside.
    let same : a + i ≡ length before + j = omega (arith, here, place, is) in
    get_or-take len (drop a all) i 0 (omega (arith, inside, size)) ∙ get_or-drop a all i 0
    ∙ ap (λ n. get_or all n 0) same ∙ get_or-append-add before bytes j 0 ∙ sym byte in
    subst (λ n. take n (drop (start + a)
    (put_at (place_of new.past k) (byte_of new.past k) (moment new.start new.past k))) ≡ xs) size
    (same_at (start + a) (place_of new.past k) (byte_of new.past k) xs (moment new.start new.past k) right
    (subst (λ n. take n (drop (start + a) (moment new.start new.past k)) ≡ xs) (sym size) here)))

-- bytes stay stored if the contents at their places don't change
pub stored_same : (start n : ℕ) (bytes first : List ℕ) (old new : MediumState) → length bytes ≤ n
    → ((k : ℕ) → length old.past ≤ k → k ≤ length new.past
    → take n (drop start (moment new.start new.past k)) ≡ take n (drop start first))
    → StaysStored start bytes old new
stored_same start n bytes first old new few same a len within k m from le to here =
    let part : (c : List ℕ) → take n (drop start c) ≡ take n (drop start first)
    → take len (drop (start + a) c) ≡ take len (drop (start + a) first) =
    λ c is. ap (take len) (sym (drop-drop a start c))
    ∙ front_part n a len (drop start c) (drop start first) (omega (arith, within, few)) is
    ∙ ap (take len) (drop-drop a start first) in
    part (moment new.start new.past m) (same m (omega (arith, from, le)) to)
    ∙ sym (part (moment new.start new.past k) (same k from (omega (arith, le, to)))) ∙ here

-- and if nothing is written
pub stored_still : (start : ℕ) (bytes : List ℕ) (s : MediumState) → StaysStored start bytes s s
stored_still start bytes s a len within k m from le to here = grind (arith, common_steps)

-- by one call and then another
pub stored_join : (start : ℕ) (bytes : List ℕ) (a b c : MediumState) (earlier later : List (ℕ × ℕ))
    → b.past ≡ a.past ++ earlier → c.start ≡ b.start → c.past ≡ b.past ++ later
    → StaysStored start bytes a b → StaysStored start bytes b c → StaysStored start bytes a c
stored_join start bytes a b c earlier later was begins past first then p len within k m from le to here =
    let P : List ℕ → Type 0 = IsStored start bytes p len in
    let sooner : length a.past ≤ length b.past = omega (arith, ap length was, length-append a.past earlier) in
    let same : (j : ℕ) → j ≤ length b.past
    → moment b.start b.past j ≡ moment c.start c.past j = grind (arith, common_steps, moment_before) in
    let late : (j : ℕ) → length b.past ≤ j → j ≤ m → P (moment c.start c.past j) → P (moment c.start c.past m) =
    λ j low high there. then p len within j m low high to there in
    let early : (j : ℕ) → k ≤ j → j ≤ length b.past → P (moment c.start c.past j) = λ j low high. subst P (same j high)
    (first p len within k j from low high (subst P (sym (same k (omega (arith, low, high)))) here)) in
    elim (cases_lt (length b.past) k) [
      | inl after ↦ late k (omega (arith, after)) le here
      | inr before ↦ elim (cases_lt (length b.past) m) [
        | inl over ↦ late (length b.past) (omega arith) (omega (arith, over))
            (early (length b.past) before (omega arith))
        | inr inside ↦ early m le inside
      ]
    ]

-- fewer bytes
pub stored_fewer : (start : ℕ) (xs ys : List ℕ) (old new : MediumState)
    → StaysStored start (xs ++ ys) old new → StaysStored start xs old new
stored_fewer start xs ys old new all a len within k m from le to here = grind (arith, common_steps)

-- the accepted samples, joined, are the accepted bytes
pub joined_samples : {W : Type 0} (state : W → MediumState) (w : WriterState W) → IsSound w
    → IsWhole state w → concat (accepted_samples state w) ≡ accepted_bytes state w
joined_samples state w sound whole = grind (arith, common_steps, length-accepted, joined_bytes)
