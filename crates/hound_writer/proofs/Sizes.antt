-- What stays if the two sizes change, and if all before a place stays.
use Rattle.std.proofs.lemmas.Grind.{common_steps}
use Rattle.std.proofs.Common.{◌≡◌, ℕ, zero, suc, ◌+◌, ◌-◌, ◌≤◌, max, List, [], ◌∷◌, refl, length, take, drop, rules, sym, ◌∙◌, ap, arith}
use Rattle.std.proofs.lemmas.Slice.{between_is}
use Rattle.std.proofs.Math.Seq.{drop-nil}
use Rattle.hound_number.specs.{number}
use Rattle.hound_spec.specs.declared.spec.WavSpecEx.{WavSpecEx}
use Rattle.hound_spec.specs.{data_start}
use Rattle.hound_spec.proofs.HeaderLemmas.{length-header}
use Rattle.hound_medium.specs.{placed, overlay, put_at}
use Rattle.hound_medium.proofs.Overlays.{front_part, length-put_at, length_overlay_le, take_overlay_before}
use Rattle.hound_writer.specs.Writer.{ChangesSizesOnly, field, SameButSizes, HasHeader}

-- what is before a place stays, so what is before an earlier one does
pub take_front : (n m : ℕ) (old new : List ℕ) → n ≤ m → take m new ≡ take m old → take n new ≡ take n old
take_front n m old new le same = front_part m 0 n new old (omega arith) same

-- so the header does, in a file that was begun with it
pub header_front : (s : WavSpecEx) (start : ℕ) (old new : List ℕ) → start ≡ data_start s
    → take start new ≡ take start old → HasHeader s old → HasHeader s new
header_front s start old new at same (size, len, begins) = grind (arith, common_steps, take_front, length-header)

-- and no size has changed
pub sizes_front : (start : ℕ) (old new : List ℕ) → 4 ≤ start → take start new ≡ take start old
    → ChangesSizesOnly start old new
sizes_front start old new beyond same =
    let front = take_front 4 start old new beyond same in
    let middle = ap (drop 8) (take_front (start - 4) start old new (omega arith) same) in
    search rules

pub sizes_then : (start : ℕ) (a b c : List ℕ) → ChangesSizesOnly start a b
    → ChangesSizesOnly start b c → ChangesSizesOnly start a c
sizes_then start a b c first then = search rules

pub same_transitive : (p : ℕ) (a b c : List ℕ) → SameButSizes p a b → SameButSizes p b c → SameButSizes p a c
same_transitive p a b c ab bc = search rules

-- bytes at a place reach no further than the old end or their own
pub length_overlay_max : (bs : List ℕ) (p : ℕ) (c : List ℕ)
    → length (overlay c (placed p bs)) ≤ max (length c) (p + length bs)
length_overlay_max [] p c = omega arith
length_overlay_max (b ∷ bs) p c =
    omega (arith, length_overlay_max bs (suc p) (put_at p b c), length-put_at p b c)

-- what comes after them stays
drop_put : (n p b : ℕ) (c : List ℕ) → p + 1 ≤ n → drop n (put_at p b c) ≡ drop n c
drop_put zero p b c after = absurd (omega (arith, after))
drop_put (suc n) zero b [] after = drop-nil n
drop_put (suc n) zero b (x ∷ c) after = refl
drop_put (suc n) (suc p) b [] after = drop_put n p b [] (omega (arith, after)) ∙ drop-nil n
drop_put (suc n) (suc p) b (x ∷ c) after = drop_put n p b c (omega (arith, after))

pub drop_overlay_after : (bs : List ℕ) (n p : ℕ) (c : List ℕ) → p + length bs ≤ n
    → drop n (overlay c (placed p bs)) ≡ drop n c
drop_overlay_after [] n p c after = refl
drop_overlay_after (b ∷ bs) n p c after =
    drop_overlay_after bs n (suc p) (put_at p b c) (omega (arith, after))
    ∙ drop_put n p b c (omega (arith, after))

module _ (p : ℕ) (c : List ℕ) (beyond : 8 ≤ p) (inside : p + 4 ≤ length c) (bs : List ℕ) (few : length bs ≤ 4) where
  -- bytes at 4 leave the rest
  pub same_riff : SameButSizes p c (overlay c (placed 4 bs))
  same_riff = record {
    front = take_overlay_before bs 4 4 c (omega arith) (omega arith);
    middle = sym (between_is (overlay c (placed 4 bs)) 8 p)
        ∙ ap (take (p - 8)) (drop_overlay_after bs 8 4 c (omega arith)) ∙ between_is c 8 p;
    beyond = drop_overlay_after bs (p + 4) 4 c (omega arith);
    long = omega (arith, length_overlay_max bs 4 c, length_overlay_le bs 4 c);
  }

  pub field_riff : field p (overlay c (placed 4 bs)) ≡ field p c
  field_riff = ap (λ l. number (take 4 l)) (drop_overlay_after bs p 4 c (omega arith))

  -- bytes at p leave the rest
  pub same_length : SameButSizes p c (overlay c (placed p bs))
  same_length = record {
    front = take_overlay_before bs 4 p c (omega arith) (omega arith);
    middle = ap (drop 8) (take_overlay_before bs p p c (omega arith) (omega arith));
    beyond = drop_overlay_after bs (p + 4) p c (omega arith);
    long = omega (arith, length_overlay_max bs p c, length_overlay_le bs p c);
  }

  pub riff_length : field 4 (overlay c (placed p bs)) ≡ field 4 c
  riff_length =
      ap number (front_part 8 4 4 (overlay c (placed p bs)) c (omega arith)
      (take_overlay_before bs 8 p c beyond (omega arith)))
