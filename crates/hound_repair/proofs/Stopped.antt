-- A file whose mending was stopped is repaired to the same frames.
use Rattle.std.proofs.lemmas.Grind.{common_steps}
use Rattle.std.proofs.Common.{◌≡◌, ℕ, ◌+◌, ◌-◌, ◌*◌, ◌/◌, ◌≤◌, Bool, true, not, IsTrue, List, ◌++◌, length, drop, None, ap, ◌∙◌, subst, arith, append_assoc, length-append, length-drop}
use Rattle.std.proofs.lemmas.Bool.{cases_lt}
use Rattle.std.proofs.lemmas.List.{append-nil, drop-append-le, nil_from_length, take-append-le}
use Rattle.hound_medium.specs.{MediumState}
use Rattle.hound_spec.specs.declared.spec.WavSpecEx.{WavSpecEx}
use Rattle.hound_walk.specs.{Head}
use Rattle.hound_walk.proofs.Unique.{heads_agree}
use Rattle.hound_writer.proofs.Heads.{head_beyond, head_field, head_inside, head_with}
use Rattle.hound_number.specs.{bytes_of}
use Rattle.hound_spec.specs.{riff_size}
use Rattle.hound_writer.specs.{SameButSizes, field, with_sizes}
use Rattle.hound_repair.specs.Held.{data_held, frame_length, frames_held, held, mended, missing_pad, shown_length}
use Rattle.hound_repair.specs.Repairing.{IsFoundAt, LeavesFor, Repairs, found_length, is_mended, repair_fault, size_fault}
use Rattle.hound_repair.specs.Steps.{PartlyMended}
use Rattle.hound_repair.specs.declared.look.Repair.{Repair}
use Rattle.hound_writer.specs.declared.resuming.RepairState.TheVariants.{HasChunksAfterData}
use Rattle.hound_repair.proofs.Again.{frames_padded}
use Rattle.hound_repair.proofs.Resuming.{frames_shown}
use Rattle.hound_repair.proofs.RightSizes.{field_before, frames_are, length_of, mended_apart, not_followed}

-- the check depends on the frames held alone
fault_by_frames : (s : WavSpecEx) (len other start n m : ℕ) → frames_held s len n ≡ frames_held s other m
    → repair_fault s len start n ≡ repair_fault s other start m
unfolding repair_fault size_fault
fault_by_frames s len other start n m same = grind (arith, common_steps, same)

-- two sizes are written into bytes of which only these were others
same_but_sizes : (p size n : ℕ) (old new : List ℕ) → SameButSizes p old new
    → with_sizes p size n new ≡ with_sizes p size n old
unfolding with_sizes
same_but_sizes p size n old new same =
    λ i. same.front i ++ (bytes_of 4 size ++ (same.middle i ++ (bytes_of 4 n ++ same.beyond i)))

-- and into those before others
sizes_before : (p size n : ℕ) (c pad : List ℕ) → 8 ≤ p → p + 4 ≤ length c
    → with_sizes p size n (c ++ pad) ≡ with_sizes p size n c ++ pad
unfolding with_sizes
sizes_before p size n c pad beyond inside =
    grind (arith, common_steps, take-append-le, drop-append-le, append_assoc)

-- the pad byte that is missing, before it was written and after
pads_again : (k n : ℕ) (pad : List ℕ) → (1 ≤ length pad → pad ≡ missing_pad k n)
    → pad ++ missing_pad k (n + length pad) ≡ missing_pad k n
pads_again k n pad last = grind (arith, common_steps, append-nil, nil_from_length, cases_lt)

-- mending what is left leaves what mending the whole would have left
mended_again : (start n : ℕ) (old new : List ℕ) → PartlyMended start n old new → 20 ≤ start → start ≤ length old
    → mended start n new ≡ mended start n old
mended_again start n old new half beyond inside =
    let p = start - 4 in
    let size = riff_size start n in
    let within : start ≤ length half.sizes = omega (arith, half.same.long, inside) in
    let held_now : held start new ≡ held start old + length half.pad =
    ap (held start) half.is
    ∙ omega (
      arith,
      length-drop start (half.sizes ++ half.pad),
      length-append half.sizes half.pad,
      length-drop start old,
      half.same.long,
      inside,
    ) in
    let sizes : with_sizes p size n new ≡ with_sizes p size n old ++ half.pad =
    ap (with_sizes p size n) half.is
    ∙ sizes_before p size n half.sizes half.pad (omega (arith, beyond)) (omega (arith, beyond, within))
    ∙ ap (λ c. c ++ half.pad) (same_but_sizes p size n old half.sizes half.same) in
    let pads = pads_again n (held start old) half.pad (λ some. (half.last some).1) in
    ap (λ c. c ++ missing_pad n (held start new)) sizes
    ∙ append_assoc (with_sizes p size n old) half.pad (missing_pad n (held start new))
    ∙ ap (λ c. with_sizes p size n old ++ c) (ap (λ k. half.pad ++ missing_pad n k) held_now ∙ pads)

module _ (looks : Bool) (old : List ℕ) (mid : MediumState) (found : Repair) (len start : ℕ)
    (at : IsFoundAt looks old found len start)
    (apart : found.state ≡ HasChunksAfterData → ⊥) (some : 1 ≤ frame_length found.spec_ex)
    (half : PartlyMended start (found_length found) old mid.contents) where
  abbrev s : WavSpecEx
  s = found.spec_ex

  abbrev n : ℕ
  n = held start old

  -- the data length that is in its field
  abbrev says : ℕ
  says = field (start - 4) mid.contents

  right : found_length found
      ≡ data_held (frame_length s) (shown_length start len old) n / frame_length s * frame_length s
  right = length_of looks old found len start at apart

  head_now : Head mid.contents s says start
  head_now = grind (arith, common_steps, head_with, length-append, take-append-le)

  says_is : says ≡ field (start - 4) half.sizes
  says_is = ap (field (start - 4)) half.is ∙ field_before (start - 4) half.sizes half.pad
      (omega (arith, half.same.long, head_beyond old s len start at.head, head_inside old s len start at.head))

  -- what follows the header
  rest_now : drop start mid.contents ≡ drop start old ++ half.pad
  rest_now = grind (arith, common_steps)

  -- before the pad byte
  frames_before : length half.pad ≡ 0
      → frames_held s (shown_length start says mid.contents) (held start mid.contents) ≡ found.frames
  frames_before none =
      grind (
        arith,
        common_steps,
        append-nil,
        nil_from_length,
        head_field,
        frames_shown,
        frames_are,
        right,
        says_is,
        rest_now,
      )

  -- and after it
  frames_after : 1 ≤ length half.pad
      → frames_held s (shown_length start says mid.contents) (held start mid.contents) ≡ found.frames
  frames_after put =
      let length_now : says ≡ found_length found = says_is ∙ (half.last put).0 in
      ap (λ l. frames_held s (shown_length start l mid.contents) (held start mid.contents)) length_now
      ∙ frames_padded looks old mid.contents found len start at apart some
      (rest_now ∙ ap (λ pad. drop start old ++ pad) (half.last put).1)

  frames_now : frames_held s (shown_length start says mid.contents) (held start mid.contents) ≡ found.frames
  frames_now = grind (arith, common_steps, cases_lt, frames_before, frames_after)

  -- a repair of what is left fails no check
  pub still_repairable : Head mid.contents s says start
      × (repair_fault s (shown_length start says mid.contents) start (held start mid.contents) ≡ None)
  still_repairable = grind (arith, common_steps, frames_are, fault_by_frames, head_now, frames_now)

  -- so a repair that was stopped can be done again
  pub resumed_by_effects : (again : Bool) (new : MediumState) (other : Repair) → (second : Repairs again mid other new)
      → (IsTrue again → other.state ≡ HasChunksAfterData → ⊥)
      → (other.spec_ex ≡ s) × (other.frames ≡ found.frames)
  resumed_by_effects again new other second alone =
      let agree = heads_agree mid.contents other.spec_ex s second.len says second.start start second.is.head
      head_now in
      let unfollowed = not_followed again _ _ _ other.state second.is.state alone in (
        agree.0,
        frames_are again mid.contents other second.len second.start second.is unfollowed
            ∙ cc (agree.0, agree.1, agree.2, frames_now),
      )

  -- and where it mends the file it leaves what the first one would have left
  pub finished_by_effects : (again : Bool) (new : MediumState) (other : Repair) → (second : Repairs again mid other new)
      → is_mended (not again) other.state ≡ true → new.contents ≡ mended start (found_length found) old
  finished_by_effects again new other second puts =
      let same = resumed_by_effects again new other second (λ _. mended_apart (not again) other.state puts) in
      let agree = heads_agree mid.contents other.spec_ex s second.len says second.start start second.is.head
      head_now in
      let length_is : found_length other ≡ found_length found = cc (same.0, same.1) in
      let left : LeavesFor true other second.start mid new =
      subst (λ put. LeavesFor put other second.start mid new) puts second.leaves in
      left.0
      ∙ cc (agree.2, length_is)
      ∙ mended_again start (found_length found) old mid.contents half (head_beyond old s len start at.head)
      (head_inside old s len start at.head)
