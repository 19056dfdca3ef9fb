-- Bytes written at places of a list: what they leave.
use Rattle.std.proofs.lemmas.Grind.{common_steps}
use Rattle.std.proofs.Common.{◌≡◌, ℕ, zero, suc, ◌+◌, ◌-◌, ◌<◌, ◌≤◌, max, replicate, List, [], ◌∷◌, ◌++◌, length, get_or, take, drop, refl, sym, ◌∙◌, ap, arith, append_assoc, length-append, take-append-drop}
use Rattle.std.proofs.lemmas.List.{append-nil, length-replicate, take_more, take-take}
use Rattle.std.proofs.Math.Seq.{drop-nil}
use Rattle.std.proofs.lemmas.Slice.{between_is}
use Rattle.hound_medium.specs.State.{put_at, placed, overlay}
use Rattle.hound_number.specs.{AreBytes}

-- the places continue after the first list
pub placed-append : (p : ℕ) (xs ys : List ℕ) → placed p (xs ++ ys) ≡ placed p xs ++ placed (p + length xs) ys
placed-append p [] ys = ap (λ q. placed q ys) (omega arith)
placed-append p (x ∷ xs) ys = ap (λ (l : List (ℕ × ℕ)). (p, x) ∷ l)
    (placed-append (suc p) xs ys ∙ ap (λ q. placed (suc p) xs ++ placed q ys) (omega arith))

-- bytes that are written in two runs
pub overlay-append : (c : List ℕ) (xs ys : List (ℕ × ℕ)) → overlay c (xs ++ ys) ≡ overlay (overlay c xs) ys
overlay-append c [] ys = refl
overlay-append c (e ∷ xs) ys = overlay-append (put_at e.0 e.1 c) xs ys

pub length-placed : (p : ℕ) (xs : List ℕ) → length (placed p xs) ≡ length xs
length-placed p [] = refl
length-placed p (x ∷ xs) = ap suc (length-placed (suc p) xs)

pub take-placed : (k p : ℕ) (xs : List ℕ) → take k (placed p xs) ≡ placed p (take k xs)
take-placed zero p xs = refl
take-placed (suc k) p [] = refl
take-placed (suc k) p (x ∷ xs) = ap (λ (l : List (ℕ × ℕ)). (p, x) ∷ l) (take-placed k (suc p) xs)

pub length-put_at : (p b : ℕ) (c : List ℕ) → length (put_at p b c) ≡ max (length c) (suc p)
length-put_at zero b [] = refl
length-put_at zero b (x ∷ c) = omega arith
length-put_at (suc p) b [] = omega (arith, length-put_at p b [])
length-put_at (suc p) b (x ∷ c) = omega (arith, length-put_at p b c)

take-put_at : (p b : ℕ) (c : List ℕ) → p ≤ length c → take (suc p) (put_at p b c) ≡ take p c ++ b ∷ []
take-put_at zero b [] h = refl
take-put_at zero b (x ∷ c) h = refl
take-put_at (suc p) b [] h = absurd (omega (arith, h))
take-put_at (suc p) b (x ∷ c) h = ap (λ (l : List ℕ). x ∷ l) (take-put_at p b c (omega arith))

drop-put_at : (p b m : ℕ) (c : List ℕ) → p < m → drop m (put_at p b c) ≡ drop m c
drop-put_at p b zero c h = absurd (omega (arith, h))
drop-put_at zero b (suc m) [] h = drop-nil m
drop-put_at zero b (suc m) (x ∷ c) h = refl
drop-put_at (suc p) b (suc m) [] h = drop-put_at p b m [] (omega arith) ∙ drop-nil m
drop-put_at (suc p) b (suc m) (x ∷ c) h = drop-put_at p b m c (omega arith)

-- bytes written at a place inside the contents or at their end: what was before the place, the bytes, what was after
-- them
pub overlay_is : (c : List ℕ) (p : ℕ) (bs : List ℕ) → p ≤ length c
    → overlay c (placed p bs) ≡ take p c ++ (bs ++ drop (p + length bs) c)
overlay_is c p [] h =
    sym (ap (λ q. take p c ++ drop q c) (let e : p + 0 ≡ p = omega arith in e) ∙ take-append-drop p c)
overlay_is c p (b ∷ bs) h =
    let d = put_at p b c in
    let far : p < suc p + length bs = omega arith in
    overlay_is d (suc p) bs (omega (arith, length-put_at p b c))
    ∙ ap (λ (l : List ℕ). l ++ (bs ++ drop (suc p + length bs) d)) (take-put_at p b c h)
    ∙ append_assoc (take p c) (b ∷ []) (bs ++ drop (suc p + length bs) d)
    ∙ ap (λ (l : List ℕ). take p c ++ (b ∷ (bs ++ l)))
    (drop-put_at p b (suc p + length bs) c far
    ∙ ap (λ q. drop q c) (let e : suc p + length bs ≡ p + suc (length bs) = omega arith in e))

-- bytes written at the end
pub overlay_at_end : (c : List ℕ) (p : ℕ) (bs : List ℕ) → p ≡ length c → overlay c (placed p bs) ≡ c ++ bs
overlay_at_end c p bs end = grind (arith, common_steps, overlay_is)

-- zeros that were already after the contents, where the byte or its gap comes
put_at_padded : (p b : ℕ) (c : List ℕ) (m : ℕ) → put_at p b (c ++ replicate m 0) ≡ put_at p b c ++ replicate
    (length c + m - max (length c) (suc p)) 0
put_at_padded zero b [] zero = refl
put_at_padded zero b [] (suc m) = ap (λ n. b ∷ replicate n 0) (omega arith)
put_at_padded zero b (x ∷ c) m = ap (λ n. b ∷ (c ++ replicate n 0)) (omega arith)
put_at_padded (suc p) b [] zero =
    sym (ap (λ n. (0 ∷ put_at p b []) ++ replicate n 0)
    (let e : 0 + 0 - max 0 (suc (suc p)) ≡ 0 = omega arith in e) ∙ append-nil (0 ∷ put_at p b []))
put_at_padded (suc p) b [] (suc m) =
    ap (λ (l : List ℕ). 0 ∷ l)
    (put_at_padded p b [] m ∙ ap (λ n. put_at p b [] ++ replicate n 0) (omega arith))
put_at_padded (suc p) b (x ∷ c) m =
    ap (λ (l : List ℕ). x ∷ l)
    (put_at_padded p b c m ∙ ap (λ n. put_at p b c ++ replicate n 0) (omega arith))

-- zeros after the contents change nothing if the bytes reach at least as far
pub overlay_padded : (bs : List ℕ) (p : ℕ) (c : List ℕ) (m : ℕ)
    → length c + m ≤ max (length c) (p + length bs) → (length bs ≡ 0 → p ≤ length c)
    → overlay (c ++ replicate m 0) (placed p bs) ≡ overlay c (placed p bs)
overlay_padded [] p c m fits some =
    ap (λ n. c ++ replicate n 0) (let e : m ≡ 0 = omega (arith, fits, some) in e) ∙ append-nil c
overlay_padded (b ∷ bs) p c m fits some =
    let n = length c + m - max (length c) (suc p) in
    ap (λ l. overlay l (placed (suc p) bs)) (put_at_padded p b c m)
    ∙ overlay_padded bs (suc p) (put_at p b c) n (omega (arith, fits, length-put_at p b c))
    (λ e. omega (arith, length-put_at p b c))

-- bytes written at any place, as code does it: zeros make the contents long enough, and the bytes are copied over them
pub overlay_resized : (c : List ℕ) (p : ℕ) (bs : List ℕ) (m : ℕ) → 0 < length bs
    → length c + m ≡ max (length c) (p + length bs)
    → overlay c (placed p bs) ≡ take p (c ++ replicate m 0) ++
    (bs ++ drop (p + length bs) (c ++ replicate m 0))
overlay_resized c p bs m some size =
    sym (overlay_padded bs p c m (omega (arith, size)) (λ e. omega (arith, some)))
    ∙ overlay_is (c ++ replicate m 0) p bs
    (omega (arith, size, length-append c (replicate m 0), length-replicate {A = ℕ} m 0))

small_put_at : (p b : ℕ) (c : List ℕ) → b < 256 → AreBytes c → AreBytes (put_at p b c)
small_put_at zero b [] low small zero = low
small_put_at zero b [] low small (suc i) = small (suc i)
small_put_at zero b (x ∷ c) low small zero = low
small_put_at zero b (x ∷ c) low small (suc i) = small (suc i)
small_put_at (suc p) b [] low small zero = omega arith
small_put_at (suc p) b [] low small (suc i) = small_put_at p b [] low small i
small_put_at (suc p) b (x ∷ c) low small zero = small 0
small_put_at (suc p) b (x ∷ c) low small (suc i) = small_put_at p b c low (λ k. small (suc k)) i

-- bytes written among bytes are bytes
pub small_overlay : (c : List ℕ) (p : ℕ) (bs : List ℕ) → AreBytes c → AreBytes bs → AreBytes (overlay c (placed p bs))
small_overlay c p [] small fits = small
small_overlay c p (b ∷ bs) small fits =
    small_overlay (put_at p b c) (suc p) bs (small_put_at p b c (fits 0) small) (λ i. fits (suc i))

-- one byte more of those that are written
pub placed_more : (p : ℕ) (bs : List ℕ) (i : ℕ) → i < length bs
    → placed p (take (i + 1) bs) ≡ placed p (take i bs) ++ (p + i, get_or bs i 0) ∷ []
placed_more p bs i h = grind (arith, common_steps, placed-append)

-- one byte more of a past
pub overlay_more : (c : List ℕ) (past : List (ℕ × ℕ)) (i : ℕ) (e : ℕ × ℕ) → i < length past
    → overlay c (take (i + 1) past) ≡ put_at (get_or past i e).0 (get_or past i e).1
    (overlay c (take i past))
overlay_more c past i e h = grind (arith, common_steps, get_or, take_more, overlay-append)

-- a front of bytes is bytes
pub small_take : (n : ℕ) (bs : List ℕ) → AreBytes bs → AreBytes (take n bs)
small_take n bs small = grind (arith, common_steps)

-- contents that a past leads to, and what more bytes make of them
pub replays_more : (start : List ℕ) (past added : List (ℕ × ℕ)) (old : List ℕ)
    → old ≡ overlay start past → overlay old added ≡ overlay start (past ++ added)
replays_more start past added old replays = grind (arith, common_steps, overlay-append)

take_put_at_before : (n p b : ℕ) (c : List ℕ) → n ≤ p → n ≤ length c → take n (put_at p b c) ≡ take n c
take_put_at_before zero p b c before inside = refl
take_put_at_before (suc n) zero b c before inside = absurd (omega (arith, before))
take_put_at_before (suc n) (suc p) b [] before inside = absurd (omega (arith, inside))
take_put_at_before (suc n) (suc p) b (x ∷ c) before inside =
    ap (λ (l : List ℕ). x ∷ l)
    (take_put_at_before n p b c (omega (arith, before)) (omega (arith, inside)))

-- what is before a place stays, whatever is written there or after it
pub take_overlay_before : (bs : List ℕ) (n p : ℕ) (c : List ℕ) → n ≤ p → n ≤ length c
    → take n (overlay c (placed p bs)) ≡ take n c
take_overlay_before [] n p c before inside = refl
take_overlay_before (b ∷ bs) n p c before inside =
    take_overlay_before bs n (suc p) (put_at p b c) (omega (arith, before))
    (omega (arith, inside, length-put_at p b c)) ∙ take_put_at_before n p b c before inside

-- contents get no shorter
pub length_overlay_le : (bs : List ℕ) (p : ℕ) (c : List ℕ) → length c ≤ length (overlay c (placed p bs))
length_overlay_le [] p c = omega arith
length_overlay_le (b ∷ bs) p c =
    omega (arith, length_overlay_le bs (suc p) (put_at p b c), length-put_at p b c)

-- a part of two lists with the same front is the same
pub front_part : (m a b : ℕ) (c d : List ℕ) → a + b ≤ m → take m c ≡ take m d → take b (drop a c) ≡ take b (drop a d)
front_part m a b c d within same = part c ∙ ap (λ l. drop a (take (a + b) l)) same ∙ sym (part d)
  where
    part : (e : List ℕ) → take b (drop a e) ≡ drop a (take (a + b) (take m e))
    part e =
        ap (λ n. take n (drop a e)) (let i : b ≡ a + b - a = omega arith in i)
        ∙ between_is e a (a + b)
        ∙ ap (drop a) (sym (take-take (a + b) m e within))
