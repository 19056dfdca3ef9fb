-- The two sizes of a file, and what they leave.
use Rattle.std.proofs.lemmas.Grind.{common_steps}
use Rattle.std.proofs.Common.{◌≡◌, ℕ, ◌+◌, ◌^◌, ◌<◌, ◌≤◌, Bool, List, ◌++◌, length, take, drop, Result, Ok, Err, IsErr, OnOk, MatchResult, refl, subst, sym, ◌∙◌, ap, arith, length-append, length-drop, length-take}
use Rattle.std.proofs.lemmas.List.{drop_at, length-take-le, take_all, take_at}
use Rattle.hound_number.specs.{bytes_of, mix, AreBytes}
use Rattle.hound_number.proofs.Mixing.{mix_none}
use Rattle.hound_spec.proofs.FmtLemmas.{number-bytes_of}
use Rattle.hound_medium.specs.{placed, overlay, MediumState, Flushes, faults_after, one_more}
use Rattle.hound_medium.proofs.Outcomes.{on_ok}
use Rattle.hound_medium.proofs.Inside.{drop_to}
use Rattle.hound_medium.proofs.Overlays.{front_part, take_overlay_before}
use Rattle.hound_medium.proofs.Torn.{number_at_small, number_at_mix}
use Rattle.hound_writer.specs.Parts.{HasSize, IsPatched, PutsAt, Patches}
use Rattle.hound_writer.specs.Writer.{with_sizes, field}
use Rattle.hound_writer.proofs.Heads.{in_parts}
use Rattle.hound_writer.proofs.Sizes.{same_transitive, same_riff, field_riff, same_length, riff_length}

-- bytes that are the same ones are written
pub with_bytes : {T E : Type 0} {keeps : Bool} {at : ℕ} {a b : List ℕ} {r : Result T E} {old new : MediumState}
    → a ≡ b → PutsAt keeps at a r old new → PutsAt keeps at b r old new
with_bytes {T = T} {E = E} {keeps = keeps} {at = at} {r = r} {old = old} {new = new} is puts =
    subst (λ l. PutsAt {T = T} {E = E} keeps at l r old new) is puts

pub has_size : (p : ℕ) (contents : List ℕ) → 8 ≤ p → p + 4 ≤ length contents → AreBytes contents → HasSize p contents
has_size p contents beyond inside small = grind (arith, common_steps)

-- both sizes written, one after the other
pub sizes_put : (p size data_length : ℕ) (c : List ℕ) → 8 ≤ p → p + 4 ≤ length c
    → overlay (overlay c (placed 4 (bytes_of 4 size)))
    (placed p (bytes_of 4 data_length)) ≡ with_sizes p size data_length c
unfolding with_sizes
sizes_put p size data_length c beyond inside =
    let bs = bytes_of 4 size in
    let ls = bytes_of 4 data_length in
    let d = overlay c (placed 4 bs) in
    let first = same_riff p c beyond inside bs (omega arith) in
    let long : p + 4 ≤ length d = omega (arith, first.long) in
    let then = same_length p d beyond long ls (omega arith) in
    cc (
      in_parts p (overlay d (placed p ls)) beyond,
      drop_to c 4 bs (omega arith),
      take_at bs (drop (4 + 4) c) 4 refl,
      front_part 8 4 4 (overlay d (placed p ls)) d (omega arith) (take_overlay_before ls 8 p d beyond (omega arith)),
      drop_to d p ls (omega arith),
      take_at ls (drop (p + 4) d) 4 refl,
    )

-- the contents while two sizes are written over a base
module _ (p size new : ℕ) (base : List ℕ) (has : HasSize p base) where
  field_small : field p base < 2 ^ 32
  field_small = number_at_small p base has.inside has.small

  four : 4 + 4 ≤ length base
  four = omega (arith, has.beyond, has.inside)

  -- the RIFF size, all of its bytes or a beginning
  pub patched_riff : (k : ℕ) → k ≤ 4 → IsPatched p size base new 0 (overlay base (placed 4 (take k (bytes_of 4 size))))
  patched_riff k within =
      let bytes = take k (bytes_of 4 size) in
      let few : length bytes ≤ 4 = omega (arith, length-take k (bytes_of 4 size)) in
      record {
        same = same_riff p base has.beyond has.inside bytes few;
        riff = (k, within, number_at_mix 4 base four has.small size k within);
        order = λ some. absurd (omega (arith, some));
        field = field_riff p base has.beyond has.inside bytes few ∙ sym (mix_none (field p base) new field_small);
      }

  -- after it the field
  module _ (c : List ℕ) (small : AreBytes c) (so_far : IsPatched p size base new 0 c) (riff : field 4 c ≡ size) where
    inside_now : p + 4 ≤ length c
    inside_now = omega (arith, has.inside, so_far.same.long)

    pub patched_field : (j : ℕ) → j ≤ 4 → IsPatched p size base new j (overlay c (placed p (take j (bytes_of 4 new))))
    patched_field j within =
        let bytes = take j (bytes_of 4 new) in
        let few : length bytes ≤ 4 = omega (arith, length-take j (bytes_of 4 new)) in
        let still = riff_length p c has.beyond inside_now bytes few in
        record {
          same = same_transitive p base c (overlay c (placed p bytes)) so_far.same
              (same_length p c has.beyond inside_now bytes few);
          riff = (so_far.riff.0, so_far.riff.1, still ∙ so_far.riff.2);
          order = λ _. still ∙ riff;
          field = number_at_mix p c inside_now small new j within
              ∙ ap (λ n. mix j n new) (so_far.field ∙ mix_none (field p base) new field_small);
        }

-- the sizes that were written, over media
module _ {T E : Type 0} (keeps : Bool) (p size new : ℕ) (r : Result T E) (a b : MediumState)
    (has : HasSize p a.contents) (first : PutsAt keeps 4 (bytes_of 4 size) r a b) where
  pub first_half : IsPatched p size a.contents new 0 b.contents
  first_half =
      rw first.contents (patched_riff p size new a.contents has first.count first.within)

  pub riff_put : first.count ≡ 4 → size < 2 ^ 32 → field 4 b.contents ≡ size
  riff_put all fits = grind (arith, common_steps)

  module _ {V F : Type 0} (s : Result V F) (c : MediumState) (small : AreBytes b.contents)
      (all : first.count ≡ 4) (fits : size < 2 ^ 32)
      (second : PutsAt keeps p (bytes_of 4 new) s b c) where
    pub second_half : IsPatched p size a.contents new second.count c.contents
    second_half = grind (arith, common_steps, patched_field, first_half, riff_put)

-- a patch that a fault ended
pub cut : {V F : Type 0} (p size data_length k : ℕ) (answer : Result V F) (a d : MediumState)
    → IsErr answer → k ≤ 4 → IsPatched p size a.contents data_length k d.contents
    → d.faults ≡ one_more a.faults → Patches p size data_length answer a d
cut p size data_length k answer a d err le half faults = grind (arith, common_steps)

-- a patch whose writes were Ok
pub patched : {T E V F X Y : Type 0} (keeps : Bool) (p size data_length : ℕ) (r : Result T E)
    (s : Result V F) (flush : Result X Y) (a b c d : MediumState) → HasSize p a.contents
    → AreBytes b.contents
    → (first : PutsAt keeps 4 (bytes_of 4 size) r a b)
    (second : PutsAt keeps p (bytes_of 4 data_length) s b c) → first.count ≡ 4
    → second.count ≡ 4 → size < 2 ^ 32 → c.faults ≡ a.faults → Flushes flush c d
    → Patches p size data_length flush a d
patched keeps p size data_length r s flush a b c d has small first second all_first all_second fits faults flushes =
    let one : b.contents ≡ overlay a.contents (placed 4 (bytes_of 4 size)) = grind (arith, common_steps, take_all) in
    let both : c.contents ≡ with_sizes p size data_length a.contents =
    grind (arith, common_steps, take_all, sizes_put) in
    let same = flushes.stays.contents in
    record {
      contents = on_ok flush (same ∙ both);
      half = (
        second.count,
        second.within,
        rw same (second_half keeps p size data_length r a b has first s c small all_first fits second),
      );
      flushed =
          is_flushed (d.flushed ≡ length d.past) (d.flushed ≡ c.flushed) flush flushes.flushed;
      faults = flushes.faults ∙ ap (faults_after flush) faults;
    }
  where
    is_flushed : {X Y : Type 0} (P Q : Type 0) (flush : Result X Y) → MatchResult flush (λ _. P) (λ _. Q) → OnOk flush P
    is_flushed P Q (Ok x) here = here
    is_flushed P Q (Err e) there = tt

-- the contents with two sizes, part by part
module _ (p size data_length : ℕ) (c : List ℕ) (beyond : 8 ≤ p) (inside : p + 4 ≤ length c) where
  length-front : length (take 4 c) ≡ 4
  length-front = length-take-le 4 c (omega arith)

  length-before : length (take 4 c ++ (bytes_of 4 size ++ drop 8 (take p c))) ≡ p
  length-before =
      length-append (take 4 c) (bytes_of 4 size ++ drop 8 (take p c))
      ∙ omega (
        arith,
        length-front,
        length-append (bytes_of 4 size) (drop 8 (take p c)),
        length-drop 8 (take p c),
        length-take-le p c (omega arith),
      )

  -- what is before the data length, and the data length with what comes after it
  at_length : with_sizes p size data_length c ≡ (take 4 c ++ (bytes_of 4 size ++ drop 8 (take p c))) ++
      (bytes_of 4 data_length ++ drop (p + 4) c)
  unfolding with_sizes
  at_length = grind (arith, common_steps)

  pub riff_size_of_sizes : size < 2 ^ 32 → field 4 (with_sizes p size data_length c) ≡ size
  unfolding with_sizes
  riff_size_of_sizes small = grind (arith, common_steps)

  at_data : drop p (with_sizes p size data_length c) ≡ bytes_of 4 data_length ++ drop (p + 4) c
  at_data = grind (arith, common_steps, at_length, drop_at, length-before)

  pub data_length_of_sizes : data_length < 2 ^ 32 → field p (with_sizes p size data_length c) ≡ data_length
  data_length_of_sizes small = grind (arith, common_steps, number-bytes_of, at_data)
