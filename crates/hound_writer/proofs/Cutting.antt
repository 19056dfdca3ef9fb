-- What follows the place of a cut is ignored until it is overwritten.
use Rattle.std.proofs.lemmas.Grind.{common_steps}
use Rattle.std.proofs.Common.{◌≡◌, ℕ, zero, suc, ◌+◌, ◌≤◌, max, true, List, [], ◌∷◌, drop, get_or, length, take, Result, refl, ap, subst, arith, length-take}
use Rattle.std.specs.declared.io.Error.{Error as IoFault}
use Rattle.hound_medium.specs.{MediumState, overlay, placed, put_at}
use Rattle.hound_medium.proofs.Overlays.{length-put_at}
use Rattle.hound_writer.specs.Parts.{PutsAt}
use Rattle.hound_writer.specs.Recording.{AgreeTo}

pub agree_cut : (n : ℕ) (contents : List ℕ) → n ≤ length contents → AgreeTo n (take n contents) contents
agree_cut n contents inside = grind (arith, common_steps)

-- a byte that both get
put_both : (n at b : ℕ) (c d : List ℕ) → at ≤ n → n ≤ length c → n ≤ length d → take n c ≡ take n d
    → take (max n (suc at)) (put_at at b c) ≡ take (max n (suc at)) (put_at at b d)
put_both zero zero b [] [] low c_long d_long same = refl
put_both zero zero b [] (y ∷ d) low c_long d_long same = refl
put_both zero zero b (x ∷ c) [] low c_long d_long same = refl
put_both zero zero b (x ∷ c) (y ∷ d) low c_long d_long same = refl
put_both zero (suc at) b c d low c_long d_long same = absurd (omega (arith, low))
put_both (suc n) at b [] d low c_long d_long same = absurd (omega (arith, c_long))
put_both (suc n) at b (x ∷ c) [] low c_long d_long same = absurd (omega (arith, d_long))
put_both (suc n) zero b (x ∷ c) (y ∷ d) low c_long d_long same =
    let most : suc n ≡ max (suc n) (suc zero) = omega arith in
    subst (λ k. take k (b ∷ c) ≡ take k (b ∷ d)) most (ap (λ (l : List ℕ). b ∷ l) (ap (drop 1) same))
put_both (suc n) (suc at) b (x ∷ c) (y ∷ d) low c_long d_long same =
    let most : suc (max n (suc at)) ≡ max (suc n) (suc (suc at)) = omega arith in
    subst (λ k. take k (x ∷ put_at at b c) ≡ take k (y ∷ put_at at b d)) most
    (λ i. (ap (λ l. get_or l 0 0) same) i ∷ put_both n at b c d (omega (arith, low)) (omega (arith, c_long))
    (omega (arith, d_long))
    (ap (drop 1) same) i)

agree_put : (n at b : ℕ) (c d : List ℕ) → at ≤ n → AgreeTo n c d
    → AgreeTo (max n (suc at)) (put_at at b c) (put_at at b d)
agree_put n at b c d low given = grind (arith, common_steps, length-put_at, put_both)

agree_overlay : (bytes : List ℕ) (n at : ℕ) (c d : List ℕ) → at ≤ n → AgreeTo n c d
    → AgreeTo (max n (at + length bytes)) (overlay c (placed at bytes)) (overlay d (placed at bytes))
agree_overlay [] n at c d low agree =
    subst (λ n. AgreeTo n c d) (let e : n ≡ max n (at + 0) = omega (arith, low) in e) agree
agree_overlay (b ∷ bytes) n at c d low agree =
    let most : max (max n (suc at)) (suc at + length bytes) ≡ max n (at + suc (length bytes)) = omega arith in
    subst (λ n. AgreeTo n (overlay (put_at at b c) (placed (suc at) bytes))
    (overlay (put_at at b d) (placed (suc at) bytes)))
    most (agree_overlay bytes (max n (suc at)) (suc at) (put_at at b c) (put_at at b d) (omega arith)
    (agree_put n at b c d low agree))

pub agree_written : (n at : ℕ) (bytes cut : List ℕ) (old new : MediumState) (result : Result (Unit {0}) IoFault)
    → AgreeTo n cut old.contents → at ≤ n → (puts : PutsAt true at bytes result old new)
    → AgreeTo (max n (at + puts.count)) (overlay cut (placed at (take puts.count bytes))) new.contents
agree_written n at bytes cut old new result agree low puts =
    let long : length (take puts.count bytes) ≡ puts.count = omega (arith, puts.within, length-take puts.count bytes) in
    rw puts.contents (subst (λ k. AgreeTo (max n (at + k)) (overlay cut (placed at (take puts.count bytes)))
    (overlay old.contents (placed at (take puts.count bytes)))) long
    (agree_overlay (take puts.count bytes) n at cut old.contents low agree))
