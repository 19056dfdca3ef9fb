-- Reads into the rest of a buffer, one after the other.
use Rattle.std.proofs.lemmas.Grind.{common_steps}
use Rattle.std.proofs.Common.{◌≡◌, ℕ, ◌+◌, ◌-◌, ◌≤◌, List, ◌++◌, arith, length, take, slice_range, sym, ap, ◌∙◌, subst, le_refl, Option}
use Rattle.std.proofs.lemmas.Slice.{take-put_mid_below}
use Rattle.std.specs.Io.KnownBytes.{Consumes}
use Rattle.std.proofs.KnownBytes.{Consumes-trans}
use borrow.Rule.Slice.PartMut.{put_mid}
use lib.Seq.{take-add}

-- a front that stayed, and the part after it, are the longer front
front_and_part : (a b : ℕ) (old new : List ℕ) → a ≤ b → take a new ≡ take a old
    → take a old ++ slice_range new a b ≡ take b new
front_and_part a b old new h front =
    let same : a + (b - a) ≡ b = omega arith in
    ap (λ l. l ++ slice_range new a b) (sym front) ∙ sym (take-add a (b - a) new)
    ∙ ap (λ n. take n new) same

-- the beginning of the part that was written into a list
slice_range-put_mid : (a k n : ℕ) (xs ys : List ℕ) → a ≤ length xs → n ≤ length ys
    → slice_range (put_mid a k xs ys) a (a + n) ≡ take n ys
slice_range-put_mid a k n xs ys within fits = grind (arith, common_steps)

-- what a buffer had and what a read appended were taken, one after the other
pub taken_beyond : (old mid new : Option (List ℕ)) (at k n : ℕ) (buf given : List ℕ)
    → at ≤ length buf → n ≤ length given → Consumes old mid (take at buf)
    → Consumes mid new (take n given) → Consumes old new (take (at + n) (put_mid at k buf given))
taken_beyond old mid new at k n buf given within fits before more =
    let part = slice_range-put_mid at k n buf given within fits in
    let joined = front_and_part at (at + n) buf (put_mid at k buf given) (omega arith)
    (take-put_mid_below _ _ _ _ _ (le_refl _) within) in
    subst (Consumes old new) (ap (λ l. take at buf ++ l) (sym part) ∙ joined)
    (Consumes-trans _ _ _ _ _ before more)
