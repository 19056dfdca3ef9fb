-- Floats that are stored as integers, one after the other, with noise or without.
use mathlib.Core.Path.{◌≡◌, refl, sym, ap, ◌∙◌}
use Prim.Native.Nat.{ℕ, zero, suc, ◌+◌, ◌<◌}
use native.Mathlib.Omega.{arith}
use Rattle.std.proofs.Common.{ℤ, Bool, true, false, cond, List, [], ◌∷◌, ◌++◌, length, drop, get_or, map, not, rules, slice_index_or, take, Ok, Err, is_ok}
use Rattle.std.proofs.lemmas.List.{append-nil, drop_more, map-append, take_more}
use Rattle.std.proofs.lemmas.List.Sums.{count_by_more_no, count_by_more_yes}
use Rattle.std.proofs.lemmas.Grind.{flat_map-append}
use Rattle.std.specs.List.{count_by, flat_map}
use Rattle.std.specs.Float.{Float, binary64}
use lib.Ieee.{add, nan}
use Rattle.hound_spec.specs.{IsPair}
use Rattle.hound_spec.specs.declared.spec.SampleFormat.TheVariants.{Int}
use Rattle.hound_sample.specs.Container.{Rejection, bytes_in, fits, if_fits, int_bytes, int_container, joined_containers, unsupported}
use Rattle.hound_sample.specs.Scale.{next_state, noise, state_after, with_noise, scaled_to}

-- an integer that fits has a container
pub fits_container : (v : ℤ) (bits width : ℕ) → IsPair Int bits width → fits bits v ≡ true
    → is_ok (int_container v bits width) ≡ true
unfolding int_container
fits_container v bits width pair fit =
    ap (λ b. is_ok (cond b (if_fits bits v (int_bytes v bits width)) (Err unsupported))) pair
    ∙ ap (λ b. is_ok (cond b (Ok (int_bytes v bits width)) (Err Rejection.too_wide))) fit

-- ---- noise

-- there are as many floats with noise
pub with_noise-length : {A : Type 0} (float : A → Float) (bits state : ℕ) (values : List A)
    → length (with_noise float bits state values) ≡ length values
unfolding with_noise
with_noise-length float bits state [] = refl
with_noise-length float bits state (x ∷ values) = ap suc (with_noise-length float bits (next_state state) values)

-- where those that are left begin with a state, the next one has the noise of the state after it, and the others begin
-- with that
pub next_with_noise : {A : Type 0} (float : A → Float) (bits seed state i : ℕ) (values : List A) (x : A)
    → i < length values
    → x ≡ get_or values i x
    → drop i (with_noise float bits seed values) ≡ with_noise float bits state (drop i values)
    → (slice_index_or (with_noise float bits seed values) i nan ≡ add binary64 (float x)
    (noise bits (next_state state)))
    × (drop (i + 1) (with_noise float bits seed values) ≡ with_noise float bits (next_state state)
    (drop (i + 1) values))
unfolding with_noise
next_with_noise float bits seed state i values x less is left =
    let some : i < length (with_noise float bits seed values) =
    omega (arith, less, with_noise-length float bits seed values) in
    let first = drop_more values i x less ∙ ap (λ y. y ∷ drop (i + 1) values) (sym is) in
    let both = sym (drop_more (with_noise float bits seed values) i nan some) ∙ left
    ∙ ap (with_noise float bits state) first in
    (heads both, tails both)
  where
    heads : {x y : Float} {xs ys : List Float} → x ∷ xs ≡ y ∷ ys → x ≡ y
    heads {x} h = ap (λ zs. slice_index_or zs 0 x) h

    tails : {x y : Float} {xs ys : List Float} → x ∷ xs ≡ y ∷ ys → xs ≡ ys
    tails h = ap (drop 1) h

-- the noise of a list in two parts: the second begins with the state that the first has left
pub with_noise-append : {A : Type 0} (float : A → Float) (bits state : ℕ) (first second : List A)
    → with_noise float bits state (first ++ second)
    ≡ with_noise float bits state first ++ with_noise float bits (state_after (length first) state) second
unfolding with_noise state_after
with_noise-append float bits state [] second = refl
with_noise-append float bits state (x ∷ first) second =
    ap (λ xs. add binary64 (float x) (noise bits (next_state state)) ∷ xs)
    (with_noise-append float bits (next_state state) first second)

-- the state after some others, and then more
pub state_after-+ : (first second state : ℕ)
    → state_after (first + second) state ≡ state_after second (state_after first state)
unfolding state_after
state_after-+ zero second state = ap (λ n. state_after n state) (let none : 0 + second ≡ second = omega arith in none)
state_after-+ (suc first) second state =
    ap (λ n. state_after n state) (let next : suc first + second ≡ suc (first + second) = omega arith in next)
    ∙ state_after-+ first second (next_state state)

-- one state more
pub one_more : (i state : ℕ) → next_state (state_after i state) ≡ state_after (i + 1) state
unfolding state_after
one_more zero state = refl
one_more (suc i) state =
    one_more i (next_state state)
    ∙ ap (λ n. state_after n state) (let same : suc (i + 1) ≡ suc i + 1 = omega arith in same)

-- a state after no other is itself
pub none_more : (state : ℕ) → state ≡ state_after 0 state
unfolding state_after
none_more state = refl

-- the containers of floats, and of one more
pub joined_next : (bits width : ℕ) (floats : List Float) (i : ℕ) (c : List ℕ) → i < length floats
    → int_container (scaled_to bits (slice_index_or floats i nan)) bits width ≡ Ok c
    → joined_containers (λ v. int_container v bits width) (map (scaled_to bits) (take (i + 1) floats))
    ≡ joined_containers (λ v. int_container v bits width) (map (scaled_to bits) (take i floats)) ++ c
joined_next bits width floats i c less is =
    let container = λ (v : ℤ). bytes_in (int_container v bits width) in
    ap (λ xs. flat_map container (map (scaled_to bits) xs)) (take_more floats i nan less)
    ∙ ap (flat_map container) (map-append (scaled_to bits) (take i floats) (slice_index_or floats i nan ∷ []))
    ∙ flat_map-append container (map (scaled_to bits) (take i floats))
    (scaled_to bits (slice_index_or floats i nan) ∷ [])
    ∙ ap (λ xs. flat_map container (map (scaled_to bits) (take i floats)) ++ xs)
    (append-nil (container (scaled_to bits (slice_index_or floats i nan))) ∙ ap bytes_in is)

-- so many of the floats don't meet a condition, and the next one is counted where it doesn't, too
pub counted : (p : Float → Bool) (xs : List Float) (i n m : ℕ) (x : Float) → i < length xs
    → n ≡ count_by (λ y. not (p y)) (take i xs)
    → x ≡ slice_index_or xs i nan
    → m ≡ cond (p x) n (n + 1)
    → m ≡ count_by (λ y. not (p y)) (take (i + 1) xs)
counted p xs i n m x less count same is = by (p x) (ap p (sym same)) is
  where
    by : (b : Bool) → p (slice_index_or xs i nan) ≡ b → m ≡ cond b n (n + 1)
        → m ≡ count_by (λ y. not (p y)) (take (i + 1) xs)
    by true fit is = search (rules, is, count, count_by_more_no (λ y. not (p y)) xs i nan less (ap not fit))
    by false other is = search (rules, is, count, count_by_more_yes (λ y. not (p y)) xs i nan less (ap not other))
