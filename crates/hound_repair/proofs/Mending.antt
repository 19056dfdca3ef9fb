-- What mending a file leaves.
use Rattle.std.proofs.lemmas.Grind.{common_steps}
use Rattle.std.proofs.Common.{◌≡◌, ℕ, ◌-◌, Bool, true, false, not, ◌&&◌, List, ◌++◌, length, sym, ap, ◌∙◌, subst, arith, eqb-true}
use Rattle.hound_medium.specs.{MediumState}
use Rattle.hound_walk.specs.{IsSoundSpec}
use Rattle.hound_writer.specs.{PutsNothing, field, with_sizes}
use Rattle.hound_repair.specs.Repairing.{FindsDamage, IsSoundDamage, repair_of, HasRightLength, IsFoundAt, Repairs, UnlessFollowed, found_length, is_mended, state_of}
use Rattle.hound_repair.specs.Held.{held, mended, missing_pad}
use Rattle.hound_repair.specs.declared.look.Damage.{Damage}
use Rattle.hound_repair.specs.declared.look.Repair.{Repair}
use Rattle.hound_writer.specs.declared.resuming.RepairState.{RepairState}
use Rattle.hound_writer.specs.declared.resuming.RepairState.TheVariants.{Whole, HasChunksAfterData}
use Rattle.hound_repair.proofs.RightSizes.{held_frames, kept_counts, length_of, mended_apart, right_length_put, right_length_there, right_riff_put}

-- the sizes and the missing bytes are what mends a file
pub mended_by : (d : Damage) → IsSoundDamage d → (c pad new : List ℕ)
    → d.held ≡ held d.head.data_start c → missing_pad d.sizes.data_length d.held ≡ pad
    → new ≡ with_sizes (d.head.data_start - 4) d.sizes.riff_size d.sizes.data_length c ++ pad
    → new ≡ mended d.head.data_start d.sizes.data_length c
mended_by d sound c pad new held_is missing is = grind (arith, common_steps)

-- P, of a file that nothing follows
unless_followed : (state : RepairState) (P : Type 0) → ((state ≡ HasChunksAfterData → ⊥) → P) → UnlessFollowed state P
unless_followed state P holds = grind (arith, common_steps)

-- a whole file has the right RIFF size
whole_riff : (right counted followed : Bool) → Whole ≡ state_of (right && counted) followed counted → right ≡ true
whole_riff right counted followed is = grind (arith, common_steps)

-- a file that isn't mended is left as it is
pub repairs_kept : (looks : Bool) (old new : MediumState) (found : Repair) (len start : ℕ)
    → IsFoundAt looks old.contents found len start → IsSoundSpec found.spec_ex
    → is_mended (not looks) found.state ≡ false → PutsNothing old new → new.faults ≡ old.faults
    → Repairs looks old found new
repairs_kept looks old new found len start at sound kept nothing faults = record {
  len = len;
  start = start;
  is = at;
  leaves = rw kept nothing;
  sizes = unless_followed found.state _ (λ apart. subst (HasRightLength found start) (sym nothing.stays.contents)
      (right_length_there looks old.contents found len start at apart sound
      (eqb-true _ _ (kept_counts (not looks) _ _ _ found.state at.state kept apart))));
  riff = grind (arith, common_steps, eqb-true, length_of, whole_riff);
  faults = faults;
}

-- a file is mended
pub repairs_mended : (looks : Bool) (old new : MediumState) (found : Repair) (len start : ℕ)
    → IsFoundAt looks old.contents found len start → IsSoundSpec found.spec_ex
    → is_mended (not looks) found.state ≡ true → new.contents ≡ mended start (found_length found) old.contents
    → new.flushed ≡ length new.past → new.faults ≡ old.faults → Repairs looks old found new
repairs_mended looks old new found len start at sound put is flushed faults = record {
  len = len;
  start = start;
  is = at;
  leaves = rw put (is, flushed);
  sizes = unless_followed found.state _ (λ apart. subst (HasRightLength found start) (sym is)
      (right_length_put looks old.contents found len start at apart sound));
  riff = λ _. ap (field 4) is
      ∙ right_riff_put looks old.contents found len start at (mended_apart (not looks) found.state put);
  faults = faults;
}

-- the right data length of a file that nothing follows is that of the frames that are reported
pub length_is : (d : Damage) → IsSoundDamage d → (d.state ≡ HasChunksAfterData → ⊥)
    → d.sizes.data_length ≡ found_length (repair_of d)
length_is d sound apart = grind (arith, common_steps, held_frames)

-- the same, after a look at the file
module _ (looks : Bool) (old mid new : MediumState) (d : Damage) (sound : IsSoundDamage d)
    (finds : FindsDamage looks old d mid) (put : is_mended (not looks) d.state ≡ true) where
  pub put_ok : new.contents ≡ mended d.head.data_start d.sizes.data_length mid.contents
      → new.flushed ≡ length new.past → new.faults ≡ mid.faults
      → Repairs looks old (repair_of d) new
  put_ok contents flushed faults =
      let apart = mended_apart (not looks) d.state put in
      repairs_mended looks old new (repair_of d) d.head.data_length d.head.data_start finds.found sound.spec put
      (contents ∙ (λ i. mended d.head.data_start (length_is d sound apart i) (finds.puts.stays.contents i)))
      flushed (faults ∙ finds.faults)
