-- What a file is read as once its sizes are right.
use Rattle.std.proofs.lemmas.Grind.{common_steps}
use Rattle.std.proofs.Common.{◌≡◌, ℕ, ◌+◌, ◌-◌, ◌*◌, ◌/◌, ◌%◌, ◌^◌, ◌≤◌, ◌<◌, Bool, true, false, IsTrue, ◌&&◌, List, ◌++◌, length, take, drop, None, refl, sym, ap, ◌∙◌, subst, arith, length-append, length-drop}
use Rattle.std.proofs.lemmas.List.{take-append-le, drop-append-le}
use Rattle.std.proofs.Math.Nat.{mul_assoc, mul-div_cancel, mul-mod_left}
use Rattle.hound_number.specs.{bytes_of, number}
use Rattle.hound_spec.specs.declared.spec.WavSpecEx.{WavSpecEx}
use Rattle.hound_spec.specs.{greatest_u32, riff_size}
use Rattle.hound_medium.specs.{placed, overlay}
use Rattle.hound_walk.specs.{Head, Readable, data_fault, IsSoundSpec}
use Rattle.hound_writer.specs.{SameButSizes, field, with_sizes}
use Rattle.hound_writer.proofs.Heads.{head_beyond, head_field, head_inside, head_with}
use Rattle.hound_writer.proofs.Patching.{data_length_of_sizes, riff_size_of_sizes, sizes_put}
use Rattle.hound_writer.proofs.Sizes.{same_length, same_riff, same_transitive}
use Rattle.hound_repair.specs.Held.{frame_length, frames_held, held, mended, missing_pad, right_length, shown_length}
use Rattle.hound_repair.specs.Repairing.{HasRightLength, IsFoundAt, UnlessFollowed, found_length, frames_found, is_mended, repair_fault, size_fault, state_of}
use Rattle.hound_repair.specs.declared.look.Repair.{Repair}
use Rattle.hound_writer.specs.declared.resuming.RepairState.{RepairState}
use Rattle.hound_writer.specs.declared.resuming.RepairState.TheVariants.{HasChunksAfterData}

-- two sizes that were put change nothing else
pub same_sizes : (p riff n : ℕ) (c : List ℕ) → 8 ≤ p → p + 4 ≤ length c → SameButSizes p c (with_sizes p riff n c)
same_sizes p riff n c beyond inside =
    let first = same_riff p c beyond inside (bytes_of 4 riff) (omega arith) in
    let d = overlay c (placed 4 (bytes_of 4 riff)) in
    let within : p + 4 ≤ length d = omega (arith, inside, first.long) in
    let second = same_length p d beyond within (bytes_of 4 n) (omega arith) in
    subst (SameButSizes p c) (sizes_put p riff n c beyond inside)
    (same_transitive p c d (overlay d (placed p (bytes_of 4 n))) first second)

-- bytes after the contents change no field in them
pub field_before : (p : ℕ) (x pad : List ℕ) → p + 4 ≤ length x → field p (x ++ pad) ≡ field p x
field_before p x pad inside =
    ap (λ l. number (take 4 l)) (drop-append-le p x pad (omega (arith, inside)))
    ∙ ap number (take-append-le 4 (drop p x) pad (omega (arith, inside, length-drop p x)))

-- the head of contents with these sizes, and bytes after them
module _ (s : WavSpecEx) (len start : ℕ) (c : List ℕ) (head : Head c s len start)
    (riff n : ℕ) (small : n < 2 ^ 32) (fits : riff < 2 ^ 32) (pad : List ℕ) where
  beyond : 8 ≤ start - 4
  beyond = omega (arith, head_beyond c s len start head)

  inside : start - 4 + 4 ≤ length c
  inside = omega (arith, head_beyond c s len start head, head_inside c s len start head)

  abbrev sizes : List ℕ
  sizes = with_sizes (start - 4) riff n c

  long : length sizes ≡ length c
  long = (same_sizes (start - 4) riff n c beyond inside).long

  pub length_put : field (start - 4) (sizes ++ pad) ≡ n
  length_put = grind (arith, common_steps, field_before, inside, long, data_length_of_sizes, beyond)

  pub riff_put : field 4 (sizes ++ pad) ≡ riff
  riff_put = grind (arith, common_steps, field_before, beyond, inside, long, riff_size_of_sizes)

  pub head_put : Head (sizes ++ pad) s n start
  head_put = grind (
    arith,
    common_steps,
    same_sizes,
    beyond,
    inside,
    length_put,
    head_with,
    long,
    head_inside,
    length-append,
    take-append-le,
  )

-- whole frames have no fault
no_fault : (s : WavSpecEx) (n : ℕ) → n % s.bytes_per_sample ≡ 0
    → (n / s.bytes_per_sample) % s.spec.channels ≡ 0 → data_fault s n ≡ None
no_fault s n samples frames = grind (arith, common_steps)

-- so many frames are read
pub frames_read : (s : WavSpecEx) (n start frames : ℕ) (c : List ℕ) → 0 < s.spec.channels
    → 0 < s.bytes_per_sample → n ≡ frames * (s.spec.channels * s.bytes_per_sample)
    → Head c s n start → Readable c s (frames * s.spec.channels) start
frames_read s n start frames c channels width is head =
    let w = s.bytes_per_sample in
    let samples = frames * s.spec.channels in
    let all = is ∙ sym (mul_assoc frames s.spec.channels w) in
    let count : n / w ≡ samples = ap (λ k. k / w) all ∙ mul-div_cancel samples width in
    let whole = ap (λ k. k % w) all ∙ mul-mod_left samples w in
    record {
      len = n;
      head = head;
      frames = no_fault s n whole (ap (λ k. k % s.spec.channels) count ∙ mul-mod_left frames s.spec.channels);
      count = sym count;
    }

-- where no chunks follow the data, what is reported is what is held
pub held_frames : (state : RepairState) (s : WavSpecEx) (len shown n : ℕ)
    → (state ≡ HasChunksAfterData → ⊥) → frames_found state s len shown n ≡ frames_held s shown n
held_frames state s len shown n alone = grind (arith, common_steps)

-- chunks that aren't looked for aren't found
pub not_followed : (looks right followed counted : Bool) (state : RepairState)
    → state ≡ state_of right (looks && followed) counted
    → (IsTrue looks → state ≡ HasChunksAfterData → ⊥) → state ≡ HasChunksAfterData → ⊥
not_followed looks right followed counted state is alone here = grind (arith, common_steps)

-- nor is a file mended that is followed
pub mended_apart : (all : Bool) (state : RepairState) → is_mended all state ≡ true → state ≡ HasChunksAfterData → ⊥
mended_apart all state is here = grind (arith, common_steps)

-- the data length of a file that isn't mended and isn't followed is right
pub kept_counts : (all right followed counted : Bool) (state : RepairState)
    → state ≡ state_of (right && counted) followed counted → is_mended all state ≡ false
    → (state ≡ HasChunksAfterData → ⊥) → counted ≡ true
kept_counts all right followed counted state is kept apart = grind (arith, common_steps)

-- what the sizes of a file that isn't followed by chunks are
pub sizes_of : (state : RepairState) (found : Repair) (start : ℕ) (contents : List ℕ)
    → (state ≡ HasChunksAfterData → ⊥) → UnlessFollowed state (HasRightLength found start contents)
    → HasRightLength found start contents
sizes_of state found start contents alone right = grind (arith, common_steps)

-- a length that passes the check fits
pub size_fits : (s : WavSpecEx) (len start n : ℕ) → size_fault s len start n ≡ None
    → riff_size start (right_length s len n) ≤ greatest_u32
unfolding size_fault
size_fits s len start n none = grind (arith, common_steps)

pub check_fits : (s : WavSpecEx) (len start n : ℕ) → repair_fault s len start n ≡ None
    → riff_size start (right_length s len n) ≤ greatest_u32
unfolding repair_fault
check_fits s len start n none = grind (arith, common_steps, size_fits)

-- the sizes of a file with these frames fit, and are right where its fields say them
module _ (looks : Bool) (contents : List ℕ) (found : Repair) (len start : ℕ)
    (at : IsFoundAt looks contents found len start)
    (apart : found.state ≡ HasChunksAfterData → ⊥) where
  abbrev all : ℕ
  all = found_length found

  abbrev shown : ℕ
  shown = shown_length start len contents

  pub frames_are : found.frames ≡ frames_held found.spec_ex shown (held start contents)
  frames_are = at.frames ∙ held_frames found.state found.spec_ex len shown (held start contents) apart

  pub length_of : all ≡ right_length found.spec_ex shown (held start contents)
  length_of = ap (λ k. k * frame_length found.spec_ex) frames_are

  pub riff_fits : riff_size start all < 2 ^ 32
  riff_fits = grind (arith, common_steps, length_of, check_fits)

  pub length_fits : all < 2 ^ 32
  length_fits = omega (arith, riff_fits, head_beyond contents found.spec_ex len start at.head)

  right_length_of : IsSoundSpec found.spec_ex → (new : List ℕ) → Head new found.spec_ex all start
      → HasRightLength found start new
  right_length_of sound new head = record {
    length_says = head_field new found.spec_ex all start head;
    readable = frames_read found.spec_ex all start found.frames new sound.0 sound.1 refl head;
  }

  pub right_length_put : IsSoundSpec found.spec_ex → HasRightLength found start (mended start all contents)
  right_length_put sound =
      let s = found.spec_ex in
      let pad = missing_pad all (held start contents) in
      right_length_of sound (mended start all contents)
      (head_put s len start contents at.head (riff_size start all) all length_fits riff_fits pad)

  pub right_riff_put : field 4 (mended start all contents) ≡ riff_size start all
  right_riff_put =
      let pad = missing_pad all (held start contents) in
      riff_put found.spec_ex len start contents at.head (riff_size start all) all length_fits riff_fits pad

  pub right_length_there : IsSoundSpec found.spec_ex → len ≡ right_length found.spec_ex shown (held start contents)
      → HasRightLength found start contents
  right_length_there sound same =
      right_length_of sound contents
      (subst (λ n. Head contents found.spec_ex n start) (same ∙ sym length_of) at.head)
