-- A file that was repaired is whole.
use Rattle.std.proofs.lemmas.Grind.{common_steps}
use Rattle.std.proofs.Common.{◌≡◌, ◌⊎◌, ℕ, ◌+◌, ◌-◌, ◌*◌, ◌/◌, ◌%◌, ◌≤◌, Bool, true, false, ◌==◌, ◌&&◌, not, IsTrue, List, [], ◌∷◌, ◌++◌, inl, inr, length, drop, sym, ap, ◌∙◌, subst, arith, eqb-true, length-append, length-drop}
use Rattle.std.proofs.lemmas.List.{append-nil, drop-append-le}
use Rattle.std.proofs.Math.Nat.{mul-div_cancel, mul-mod_left}
use Rattle.std.proofs.lemmas.Nat.{div-add-mod'}
use Rattle.hound_spec.specs.declared.spec.WavSpecEx.{WavSpecEx}
use Rattle.hound_spec.specs.{padded, riff_size}
use Rattle.hound_medium.specs.{MediumState}
use Rattle.hound_walk.specs.{Head}
use Rattle.hound_walk.proofs.Unique.{heads_agree}
use Rattle.hound_writer.proofs.Heads.{head_beyond, head_field, head_inside}
use Rattle.hound_writer.specs.{field}
use Rattle.hound_repair.specs.Held.{are_right, data_held, ends_with_pad, frame_length, frames_held, has_pad, held, is_followed, mended, missing_pad, right_length, shown_length, torn_bytes, uncounted}
use Rattle.hound_repair.specs.Repairing.{HasRightLength, IsFoundAt, LeavesFor, Repairs, found_length, frames_found, is_mended, state_of, torn_found}
use Rattle.hound_repair.specs.declared.look.Repair.{Repair}
use Rattle.hound_writer.specs.declared.resuming.RepairState.{RepairState}
use Rattle.hound_writer.specs.declared.resuming.RepairState.TheVariants.{Whole, HasChunksAfterData, AllCounted}
use Rattle.hound_repair.proofs.Chunking.{nothing_follows}
use Rattle.hound_repair.proofs.RightSizes.{frames_are, length_of, not_followed, same_sizes, sizes_of}

-- the bytes held are all data, or all but the last, which is the pad byte
pub held_cases : (f len n : ℕ) → (data_held f len n ≡ n)
    ⊎ ((data_held f len n ≡ len) × (n ≡ len + 1) × (len % 2 ≡ 1) × (len % f ≡ 0))
unfolding data_held ends_with_pad
held_cases f len n = grind (arith, common_steps)

-- a byte that isn't counted is a single one
pub uncounted_cases : (bytes : List ℕ) → (uncounted bytes ≡ 0) ⊎ ((uncounted bytes ≡ 1) × (length bytes ≡ 1))
unfolding uncounted
uncounted_cases bytes = grind (arith, common_steps)

-- a last byte of 0 is a pad byte
counted_pad : (x : ℕ) (bytes : List ℕ) → uncounted (drop x (bytes ++ (0 ∷ []))) ≡ 0
unfolding uncounted
counted_pad x bytes = grind (arith, common_steps, length-drop, length-append)

-- whatever the data length is, its last byte may be a pad byte, or all that is held is data
pub by_last : (start : ℕ) (c : List ℕ) → ((x : ℕ) → shown_length start x c ≡ x)
    ⊎ ((f x : ℕ) → data_held f (shown_length start x c) (held start c) ≡ held start c)
by_last start c =
    let rest = drop start c in
    let n = length rest in
    elim (uncounted_cases (drop (n - 1) rest)) [
      | inl zero ↦ inl (λ x. grind (arith, common_steps, uncounted_cases, length-drop, zero))
      | inr one ↦ inr (λ f x. grind (arith, common_steps, uncounted_cases, length-drop, held_cases, one))
    ]

-- of mended contents the same frames are held
pub frames_again : (f len n : ℕ) → 1 ≤ f → data_held f (data_held f len n / f * f)
    (n + length (missing_pad (data_held f len n / f * f) n)) / f
    ≡ data_held f len n / f
unfolding data_held ends_with_pad
frames_again f len n some = grind (arith, common_steps, mul-div_cancel, mul-mod_left, div-add-mod')

-- no pad byte is missing where none is
pub has_pad_is : (k n : ℕ) → missing_pad k n ≡ [] → has_pad k n ≡ true
unfolding has_pad
has_pad_is k n none = ap (λ pad. length pad == 0) none

-- and one is where it is
pub has_no_pad : (k n : ℕ) → missing_pad k n ≡ 0 ∷ [] → has_pad k n ≡ false
unfolding has_pad
has_no_pad k n one = ap (λ pad. length pad == 0) one

-- the sizes that were put are right
right_again : (s : WavSpecEx) (start len riff shown n frames : ℕ)
    → len ≡ frames * frame_length s → riff ≡ riff_size start len → frames_held s shown n ≡ frames
    → has_pad len n ≡ true
    → are_right s start len riff shown n ≡ true
right_again s start len riff shown n frames len_is riff_is held_is pad = grind (arith, common_steps)

-- a pad byte is 0, where one is missing
pad_cases : (k n : ℕ) → (missing_pad k n ≡ []) ⊎ (missing_pad k n ≡ 0 ∷ [])
pad_cases k n = grind (arith, common_steps)

-- the data of a mended file, and a pad byte after them where it was missing
rest_mended : (start n : ℕ) (c : List ℕ) → 20 ≤ start → start ≤ length c
    → drop start (mended start n c) ≡ drop start c ++ missing_pad n (held start c)
rest_mended start n c beyond inside = grind (arith, common_steps, same_sizes, drop-append-le)

-- of the same data the same frames are held, whatever the right length is written over
frames_same_data : (f start len all : ℕ) (c : List ℕ) → 1 ≤ f
    → all ≡ data_held f (shown_length start len c) (held start c) / f * f
    → missing_pad all (held start c) ≡ []
    → data_held f (shown_length start all c) (held start c) / f
    ≡ data_held f (shown_length start len c) (held start c) / f
frames_same_data f start len all c some all_is none =
    let again = frames_again f (shown_length start len c) (held start c) some in
    elim (by_last start c) [
      | inl shown ↦ let same = shown all in grind (arith, common_steps, again, same, all_is, none)
      | inr every ↦ ap (λ k. k / f) (every f all ∙ sym (every f len))
    ]

-- and that they are the frames that were found, where the data are followed by a missing pad byte alone
pub frames_padded : (looks : Bool) (contents new : List ℕ) (found : Repair) (len start : ℕ)
    → IsFoundAt looks contents found len start → (found.state ≡ HasChunksAfterData → ⊥)
    → 1 ≤ frame_length found.spec_ex
    → drop start new ≡ drop start contents ++ missing_pad (found_length found) (held start contents)
    → frames_held found.spec_ex (shown_length start (found_length found) new) (held start new)
    ≡ found.frames
frames_padded looks contents new found len start at apart some rest =
    let s = found.spec_ex in
    let f = frame_length s in
    let all = found_length found in
    let n = held start contents in
    let all_is = length_of looks contents found len start at apart in
    let frames = frames_are looks contents found len start at apart in
    let again = frames_again f (shown_length start len contents) n some in
    grind (arith, common_steps, length-append, append-nil, counted_pad, pad_cases, frames_same_data)

-- as in a mended file
pub frames_mended : (looks : Bool) (contents : List ℕ) (found : Repair) (len start : ℕ)
    → IsFoundAt looks contents found len start → (found.state ≡ HasChunksAfterData → ⊥)
    → 1 ≤ frame_length found.spec_ex
    → frames_held found.spec_ex
    (shown_length start (found_length found) (mended start (found_length found) contents))
    (held start (mended start (found_length found) contents)) ≡ found.frames
frames_mended looks contents found len start at apart some =
    let s = found.spec_ex in
    let all = found_length found in
    frames_padded looks contents (mended start all contents) found len start at apart some
    (rest_mended start all contents (head_beyond contents s len start at.head)
    (head_inside contents s len start at.head))

-- of a file that is mended, or whose data length was right, the same frames are held
module _ (looks : Bool) (old mid : MediumState) (found : Repair) (first : Repairs looks old found mid)
    (apart : found.state ≡ HasChunksAfterData → ⊥) (sound : 1 ≤ frame_length found.spec_ex) where
  abbrev s : WavSpecEx
  s = found.spec_ex

  abbrev start : ℕ
  start = first.start

  abbrev all : ℕ
  all = found_length found

  pub right : HasRightLength found start mid.contents
  right = sizes_of found.state found start mid.contents apart first.sizes

  held_after : (put : Bool) → LeavesFor put found start old mid
      → frames_held s (shown_length start all mid.contents) (held start mid.contents) ≡ found.frames
  held_after put leaves = grind (arith, common_steps, head_field, frames_are, frames_mended, right)

  pub frames_same : frames_held s (shown_length start all mid.contents) (held start mid.contents) ≡ found.frames
  frames_same = held_after (is_mended (not looks) found.state) first.leaves

-- the pad byte is there after it was written
pad_again : (k n : ℕ) → has_pad k (n + length (missing_pad k n)) ≡ true
unfolding has_pad
pad_again k n = grind (arith, common_steps)

-- where none is missing there is none
none_missing : (k n : ℕ) → has_pad k n ≡ true → length (missing_pad k n) ≡ 0
unfolding has_pad
none_missing k n has = eqb-true _ _ has

-- with its pad byte and no torn frame nothing follows the data
no_rest : (f len n all : ℕ) → all ≡ data_held f len n / f * f → data_held f len n % f ≡ 0
    → n + length (missing_pad all n) ≤ padded all
unfolding data_held ends_with_pad
no_rest f len n all all_is whole = grind (arith, common_steps, div-add-mod')

-- a file that was found whole has right sizes, and what is right has its pad byte
whole_right : (right followed counted : Bool) → Whole ≡ state_of right followed counted → right ≡ true
whole_right right followed counted is = grind (arith, common_steps)

pad_of_right : (riff pad counted : Bool) → ((riff && pad) && counted) ≡ true → pad ≡ true
pad_of_right riff pad counted is = grind (arith, common_steps)

-- how a file is found whose sizes are right
right_state : (right again followed counted : Bool) (state : RepairState) → right ≡ true
    → state ≡ state_of right (again && followed) counted
    → (state ≡ Whole) ⊎ ((state ≡ HasChunksAfterData) × IsTrue again × (followed ≡ true))
right_state is_so again followed counted state sizes is = grind (arith, common_steps)

-- neither kind is mended
right_kept : (all : Bool) (state : RepairState) → (state ≡ Whole) ⊎ (state ≡ HasChunksAfterData)
    → is_mended all state ≡ false
right_kept all state is = grind (arith, common_steps)

-- the torn bytes of a file that isn't followed
torn_are : (state : RepairState) (s : WavSpecEx) (len shown n : ℕ) → (state ≡ HasChunksAfterData → ⊥)
    → torn_found state s len shown n ≡ torn_bytes s shown n
torn_are state s len shown n apart = grind (arith, common_steps)

-- the frames of a file whose data length is right, however it is found
frames_any : (state : RepairState) (s : WavSpecEx) (len shown n frames : ℕ) → 1 ≤ frame_length s
    → len ≡ frames * frame_length s → frames_held s shown n ≡ frames → frames_found state s len shown n ≡ frames
frames_any state s len shown n frames some len_is held_is = grind (arith, common_steps, mul-div_cancel)

module _ (looks again : Bool) (old mid next new : MediumState) (found other : Repair)
    (first : Repairs looks old found mid)
    (alone : IsTrue looks → found.state ≡ HasChunksAfterData → ⊥)
    (done : IsTrue looks → found.state ≡ AllCounted → ⊥)
    (sound : 1 ≤ frame_length found.spec_ex) (same : next.contents ≡ mid.contents)
    (second : Repairs again next other new) where
  apart : found.state ≡ HasChunksAfterData → ⊥
  apart = not_followed looks _ _ _ found.state first.is.state alone

  all_is : found_length found ≡ right_length found.spec_ex
      (shown_length first.start first.len old.contents) (held first.start old.contents)
  all_is = length_of looks old.contents found first.len first.start first.is apart

  -- the file was whole, or is mended
  is_right : (looks : Bool) (state : RepairState) → (state ≡ HasChunksAfterData → ⊥)
      → (IsTrue looks → state ≡ AllCounted → ⊥) → (state ≡ Whole) ⊎ (is_mended (not looks) state ≡ true)
  is_right looks state not_chunks not_all = grind (arith, common_steps)

  -- a whole file has its pad byte
  whole_pad : found.state ≡ Whole → has_pad (found_length found) (held first.start old.contents) ≡ true
  whole_pad whole = ap (λ k. has_pad k (held first.start old.contents)) all_is
      ∙ pad_of_right _ _ _ (whole_right _ _ _ (sym whole ∙ first.is.state))

  -- what is held after the first repair: what was held, and a pad byte where it was missing
  held_by : (put : Bool) → LeavesFor put found first.start old mid
      → (put ≡ false → has_pad (found_length found) (held first.start old.contents) ≡ true)
      → held first.start mid.contents ≡ held first.start old.contents
      + length (missing_pad (found_length found) (held first.start old.contents))
  held_by true leaves pad = grind (arith, common_steps, rest_mended, length-append, head_beyond, head_inside)
  held_by false leaves pad = grind (arith, common_steps, none_missing)

  held_now : held first.start next.contents ≡ held first.start old.contents
      + length (missing_pad (found_length found) (held first.start old.contents))
  held_now = ap (held first.start) same ∙ held_by (is_mended (not looks) found.state) first.leaves
      (λ kept. elim (is_right looks found.state apart done) [
        | inl whole ↦ whole_pad whole
        | inr put ↦ absurd (cc (put, kept))
      ])

  pad_now : has_pad (found_length found) (held first.start next.contents) ≡ true
  pad_now = ap (has_pad (found_length found)) held_now ∙ pad_again (found_length found) (held first.start old.contents)

  -- where no torn frame is left nothing follows the data
  none_follows : found.left_over ≡ 0 → is_followed (found_length found) (drop first.start next.contents) ≡ false
  none_follows none =
      let s = found.spec_ex in
      let n = held first.start old.contents in
      let shown = shown_length first.start first.len old.contents in
      let torn : torn_bytes s shown n ≡ 0 = sym (torn_are found.state s first.len shown n apart)
      ∙ sym first.is.left_over ∙ none in
      nothing_follows (found_length found) (drop first.start next.contents)
      (omega (arith, held_now, no_rest (frame_length s) shown n (found_length found) all_is torn))

  -- a second repair finds the same frames, and writes nothing
  pub second_repair :
      ((other.state ≡ Whole) ⊎ ((other.state ≡ HasChunksAfterData) × IsTrue again × 1 ≤ found.left_over))
      × (other.spec_ex ≡ found.spec_ex) × (other.frames ≡ found.frames) × (new.contents ≡ next.contents)
  second_repair =
      let s = found.spec_ex in
      let start = first.start in
      let all = found_length found in
      let has = right looks old mid found first apart sound in
      let agree = heads_agree next.contents other.spec_ex s second.len has.readable.len second.start start
      second.is.head (subst (λ c. Head c s has.readable.len start) (sym same) has.readable.head) in
      let len : second.len ≡ all = agree.1 ∙ sym (head_field mid.contents s has.readable.len start has.readable.head)
      ∙ has.length_says in
      let frames = frames_same looks old mid found first apart sound in
      let riff = first.riff (is_right looks found.state apart done) in
      let is_right : are_right other.spec_ex second.start second.len (field 4 next.contents)
      (shown_length second.start second.len next.contents) (held second.start next.contents) ≡ true =
      grind (arith, common_steps, right_again, pad_now) in
      let state = right_state _ again (is_followed second.len (drop second.start next.contents)) _ other.state is_right
      second.is.state in
      let kept : is_mended (not again) other.state ≡ false = right_kept (not again) other.state
      (elim state [ inl whole ↦ inl whole | inr chunks ↦ inr chunks.0 ]) in
      let frames_held_now : frames_held other.spec_ex (shown_length second.start second.len next.contents)
      (held second.start next.contents) ≡ found.frames = grind (arith, common_steps) in (
        elim state [
          | inl whole ↦ inl whole
          | inr chunks ↦ inr (chunks.0, chunks.1, grind (arith, common_steps, none_follows))
        ],
        agree.0,
        second.is.frames ∙ frames_any other.state other.spec_ex second.len _ _ found.frames
            (subst (λ s. 1 ≤ frame_length s) (sym agree.0) sound) (grind (arith, common_steps)) frames_held_now,
        grind (arith, common_steps),
      )
