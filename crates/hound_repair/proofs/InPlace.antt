-- Files in memory that are repaired where they are.
use Rattle.std.proofs.Common.{◌≡◌, ℕ, ◌+◌, ◌-◌, ◌≤◌, Bool, true, not, refl, subst, List, ◌++◌, length, take, drop, sym, ap, ◌∙◌, arith, append_assoc, length-append}
use Rattle.std.proofs.lemmas.List.{drop-drop, drop-take, length-take-le}
use Rattle.std.proofs.lemmas.Slice.{drop-append-drop}
use Rattle.std.proofs.Math.Seq.{take-append-add}
use borrow.Rule.Slice.PartMut.{put_mid}
use Rattle.hound_number.specs.{bytes_of}
use Rattle.hound_number.proofs.Mixing.{length-bytes_of}
use Rattle.hound_medium.specs.{MediumState}
use Rattle.hound_writer.specs.{with_sizes}
use Rattle.hound_repair.specs.Repairing.{FindsDamage, IsSoundDamage, repair_of, RepairsBytes, as_medium, Repairs, is_mended}
use Rattle.hound_repair.specs.Held.{mended, missing_pad}
use Rattle.hound_repair.specs.declared.look.Damage.{Damage}
use Rattle.hound_repair.specs.declared.look.Repair.{Repair}
use Rattle.hound_repair.proofs.Mending.{length_is, mended_by, repairs_mended}
use Rattle.hound_repair.proofs.RightSizes.{mended_apart}

-- two sizes that were stored in place
pub two_put : (p riff len : ℕ) (c x y : List ℕ) → 8 ≤ p → p + 4 ≤ length c → x ≡ bytes_of 4 riff
    → y ≡ bytes_of 4 len → put_mid p 4 (put_mid 4 4 c x) y ≡ with_sizes p riff len c
unfolding with_sizes
two_put p riff len c x y beyond inside x_is y_is =
    let four : length x ≡ 4 = ap length x_is ∙ length-bytes_of 4 riff in
    let front = take 4 c ++ x in
    let long : length front ≡ 8 =
    omega (arith, four, length-append (take 4 c) x, length-take-le 4 c (omega (arith, inside, beyond))) in
    let is : take 4 c ++ (x ++ drop 8 c) ≡ front ++ drop 8 c = sym (append_assoc (take 4 c) x (drop 8 c)) in
    let count : p ≡ length front + (p - 8) = omega (arith, long, beyond) in
    let eight : p ≡ 8 + (p - 8) = omega (arith, beyond) in
    let first : take p (take 4 c ++ (x ++ drop 8 c)) ≡ front ++ drop 8 (take p c) =
    ap (take p) is ∙ ap (λ k. take k (front ++ drop 8 c)) count ∙ take-append-add front (drop 8 c) (p - 8)
    ∙ ap (λ l. front ++ l) (sym (drop-take 8 (p - 8) c) ∙ ap (λ k. drop 8 (take k c)) (sym eight)) in
    let last : drop (p + 4) (take 4 c ++ (x ++ drop 8 c)) ≡ drop (p + 4) c =
    ap (drop (p + 4)) is ∙ drop-append-drop 8 c front (p + 4) (omega (arith, beyond)) long in
    ap (λ l. put_mid p 4 (take 4 c ++ (x ++ l)) y) (drop-drop 4 4 c)
    ∙ ap (λ l. take p (take 4 c ++ (x ++ drop 8 c)) ++ (y ++ l)) (drop-drop 4 p (take 4 c ++ (x ++ drop 8 c)))
    ∙ (λ i. first i ++ (y_is i ++ last i))
    ∙ append_assoc front (drop 8 (take p c)) (bytes_of 4 len ++ drop (p + 4) c)
    ∙ append_assoc (take 4 c) x (drop 8 (take p c) ++ (bytes_of 4 len ++ drop (p + 4) c))
    ∙ ap (λ l. take 4 c ++ (l ++ (drop 8 (take p c) ++ (bytes_of 4 len ++ drop (p + 4) c)))) x_is

-- a file that is mended, with its sizes and the missing bytes
pub repairs_in_place : (looks : Bool) (used n : ℕ) (old pad new : List ℕ) (d : Damage) (found : Repair)
    (looked : MediumState) → IsSoundDamage d → FindsDamage looks (as_medium (take used old)) d looked
    → is_mended (not looks) d.state ≡ true → missing_pad d.sizes.data_length d.held ≡ pad
    → take n new ≡ with_sizes (d.head.data_start - 4) d.sizes.riff_size d.sizes.data_length (take used old) ++ pad
    → drop n new ≡ drop n old → found ≡ repair_of d → RepairsBytes looks used n found old new
repairs_in_place looks used n old pad new d found looked sound finds put missing is rest found_is =
    let file = take used old in
    record {
      repairs = subst (λ f. Repairs looks (as_medium file) f (as_medium (take n new))) (sym found_is)
          (repairs_mended looks (as_medium file) (as_medium (take n new)) (repair_of d) _ _ finds.found sound.spec put
          (mended_by d sound file pad (take n new) finds.held_is missing is
          ∙ ap (λ k. mended d.head.data_start k file) (length_is d sound (mended_apart (not looks) d.state put))) refl
          refl);
      rest = rest;
    }
