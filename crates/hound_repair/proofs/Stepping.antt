-- A look at a file, one part after the other.
use Rattle.std.proofs.lemmas.Grind.{common_steps}
use Rattle.std.proofs.Common.{◌≡◌, ℕ, ◌+◌, ◌-◌, ◌≤◌, ◌<◌, Bool, true, false, ◌||◌, ◌&&◌, nat_lt, List, ◌++◌, length, drop, take, min, ◌^◌, Some, None, Result, Ok, Err, refl, sym, ap, ◌∙◌, arith, length-drop, length-take}
use Rattle.std.proofs.lemmas.Bool.{cases_lt}
use Rattle.std.proofs.lemmas.List.{take-append-le, take-take, take_all, drop-drop}
use Rattle.std.specs.Result.{is_ok, result_unwrap_or}
use Rattle.std.specs.Prelude.{MatchResult, bytes_eq, codes, slice_index, if◌then◌else◌}
use Rattle.hound_spec.specs.declared.spec.WavSpecEx.{WavSpecEx}
use Rattle.std.proofs.lemmas.Bool.Decides.{nat_tests}
use Rattle.std.proofs.Math.Nat.{le-mul_of_pos_right, lt-div-mul-add}
use Rattle.hound_walk.specs.{IsSoundSpec}
use Rattle.hound_spec.specs.{greatest_u32, is_pair, padded, riff_size}
use Rattle.hound_repair.proofs.Again.{held_cases, uncounted_cases}
use Rattle.hound_repair.proofs.RightSizes.{check_fits}
use Rattle.hound_repair.specs.declared.look.SeenHead.{SeenHead}
use Rattle.hound_repair.specs.Held.{are_chunks, begins_chunk, chunk_content, ends_with_id3, has_known_tag, has_pad, held, is_followed, right_length, shown_length, uncounted}
use Rattle.hound_repair.specs.Repairing.{repair_fault, size_fault, state_of, IsSoundDamage, shown_of}
use Rattle.hound_repair.specs.Steps.{IsAtChunk, IsFoundAs, IsLengthOf, IsMeasured, IsSearched, IsShown, LooksTo, else_followed, followed, has_all, has_right, steps_left, tagged}
use Rattle.hound_writer.specs.declared.resuming.RepairState.TheVariants.{HasChunksAfterData}
use Rattle.hound_repair.specs.declared.look.Damage.{Damage}
use Rattle.hound_repair.specs.declared.stages.LookStep.TheVariants.{Found}
use Rattle.hound_repair.specs.declared.stages.Stage.TheVariants as stages
use Rattle.hound_writer.specs.{field, too_long}
use Rattle.hound_writer.proofs.Heads.{head_inside}
use Rattle.hound_repair.proofs.Measuring.{written}
use Rattle.hound_repair.proofs.Chunking.{chunk_then, known_chunk, no_chunk, none_left, tag_is}

-- a value was one before its error was mapped
pub mapped_ok : {T E : Type 0} (D : Type 0) (P : E → Type 0) (self : Result T E) (x : T)
    → true ≡ is_ok self → MatchResult self (λ y. ◌≡◌ {A = Result T D} (Ok x) (Ok y)) P → self ≡ Ok x
mapped_ok D P (Ok y) x same cases = ap Ok (ap (λ m. result_unwrap_or m y) (sym cases))
mapped_ok D P (Err e) x same cases = absurd (cc same)

-- how a file is found whose data something follows, where that is looked for
pub found_followed : (looks : Bool) (file : List ℕ) (head : SeenHead) → IsSearched looks file head
    → followed file head ≡ true → IsFoundAs looks file head HasChunksAfterData
found_followed looks file head at is =
    let both : (looks && followed file head) ≡ true = cc (at.looks_for, is) in
    sym (ap (λ b. state_of (has_right file head) b (has_all file head)) both)

-- a file that is measured and found so is what a look finds
pub found_so : (looks : Bool) (file : List ℕ) (d : Damage) → IsMeasured file d
    → IsFoundAs looks file d.head d.state → LooksTo looks file (Ok (Found d))
found_so looks file d m state = (
  record {
    head = m.head_is;
    small = m.small;
    check = m.check;
    state = state;
    frames = cc (m.held_is, m.shown_is);
    left_over = cc (m.held_is, m.shown_is);
  },
  m.held_is,
  λ _. m.shown_is,
)

-- too few bytes for an ID3v1 tag
pub no_id3 : (len : ℕ) (bytes : List ℕ) → length bytes < len + 128 → ends_with_id3 len bytes ≡ false
unfolding ends_with_id3
no_id3 len bytes few = grind (arith, common_steps)

-- enough of them
pub id3_is : (len : ℕ) (bytes : List ℕ) → len + 128 ≤ length bytes
    → ends_with_id3 len bytes ≡ bytes_eq (take 3 (drop (length bytes - 128) bytes)) (codes "TAG")
unfolding ends_with_id3
id3_is len bytes many = grind (arith, common_steps)

-- what is at the end of the bytes from a place on is at the end of all
pub at_the_end : (start n : ℕ) (file : List ℕ) → 1 ≤ n → n ≤ held start file
    → drop (held start file - n) (drop start file) ≡ drop (length file - n) file
at_the_end start n file some within = grind (arith, common_steps, length-drop, drop-drop)

-- the tag at the end decides
pub tag_decides : (file bytes : List ℕ) (head : SeenHead) → head.data_length + 128 ≤ held head.data_start file
    → bytes ≡ take 3 (drop (length file - 128) file)
    → tagged file head ≡ bytes_eq bytes (codes "TAG")
tag_decides file bytes head within is = grind (arith, common_steps, id3_is, at_the_end)

-- where the file ends no chunk begins
pub none_begins : (k : ℕ) (bytes : List ℕ) → length bytes ≤ k → begins_chunk (drop k bytes) ≡ false
none_begins k bytes few = grind (arith, common_steps, length-drop)

-- and before that it is decided by what is there
pub begins_there : (k start : ℕ) (file : List ℕ) → k < held start file
    → begins_chunk (drop k (drop start file)) ≡ are_chunks (drop (start + k) file)
begins_there k start file before = grind (arith, common_steps, nat_lt, length-drop, drop-drop)

-- after the data with their pad byte
pub after_padded : (file : List ℕ) (head : SeenHead) → followed file head
    ≡ (begins_chunk (drop (padded head.data_length) (drop head.data_start file)) || else_followed true file head)
unfolding is_followed
after_padded file head = refl

pub begin_padded : (looks : Bool) (file : List ℕ) (head : SeenHead) → IsSearched looks file head
    → padded head.data_length < held head.data_start file
    → IsAtChunk looks file head (head.data_start + padded head.data_length) true
begin_padded looks file head not before = grind (arith, common_steps, begins_there, after_padded)

pub pass_padded : (file : List ℕ) (head : SeenHead) → held head.data_start file ≤ padded head.data_length
    → followed file head ≡ else_followed true file head
pass_padded file head few = grind (arith, common_steps, none_begins, after_padded)

pub pass_last : (file : List ℕ) (head : SeenHead) → held head.data_start file ≤ head.data_length
    → else_followed true file head ≡ tagged file head
pass_last file head few =
    ap (λ b. b || tagged file head) (none_begins head.data_length (drop head.data_start file) few)

-- the header shows a known tag
pub known_by_eight : (bytes all : List ℕ) → bytes ≡ take 8 all → has_known_tag bytes ≡ has_known_tag all
unfolding has_known_tag
known_by_eight bytes all is =
    ap has_known_tag is ∙ tag_is all (take 4 (take 8 all)) (take-take 4 8 all (omega arith))

-- a header of fewer than eight bytes is none
pub short_none : (all : List ℕ) → length all < 8 → chunk_content all ≡ None
unfolding chunk_content
short_none all few = grind (arith, common_steps)

-- at a place where chunks begin, or none does, or one
module _ (looks : Bool) (file bytes : List ℕ) (head : SeenHead) (place : ℕ) (wide : Bool)
    (at : IsAtChunk looks file head place wide) (is : bytes ≡ take 8 (drop place file)) where
  pub chunks_here : are_chunks (drop place file) ≡ true → IsFoundAs looks file head HasChunksAfterData
  chunks_here are =
      found_followed looks file head at.0 (at.1 ∙ ap (λ b. b || else_followed wide file head) are)

  pub no_chunks_here : are_chunks (drop place file) ≡ false → followed file head ≡ else_followed wide file head
  no_chunks_here are = at.1 ∙ ap (λ b. b || else_followed wide file head) are

  pub ends_here : length file ≤ place → IsFoundAs looks file head HasChunksAfterData
  ends_here beyond =
      chunks_here (none_left (drop place file) (omega (arith, beyond, length-drop place file)))

  pub known_here : place < length file → has_known_tag bytes ≡ true → IsFoundAs looks file head HasChunksAfterData
  known_here before known = grind (arith, common_steps, length-drop, known_chunk, known_by_eight, chunks_here)

  pub none_here : place < length file → has_known_tag bytes ≡ false
      → chunk_content (drop place file) ≡ None → followed file head ≡ else_followed wide file head
  none_here before other none =
      grind (arith, common_steps, length-drop, no_chunk, known_by_eight, no_chunks_here)

  pub short_here : place < length file → has_known_tag bytes ≡ false → length bytes < 8
      → followed file head ≡ else_followed wide file head
  short_here before other few = grind (arith, common_steps, length-take, short_none, none_here)

  pub one_here : (content : ℕ) → place < length file → has_known_tag bytes ≡ false
      → chunk_content (drop place file) ≡ Some content
      → IsAtChunk looks file head (place + 8 + content) wide
  one_here content before other one = (
    at.0,
    at.1 ∙ ap (λ b. b || else_followed wide file head)
        (chunk_then (drop place file) content (omega (arith, before, length-drop place file))
        (sym (known_by_eight bytes (drop place file) is) ∙ other) one
        ∙ ap are_chunks (drop-drop (8 + content) place file ∙ ap (λ k. drop k file) (omega arith))),
  )

-- where no chunk begins after the pad byte, and no bytes follow the data alone
pub pass_both : (wide : Bool) (file : List ℕ) (head : SeenHead)
    → (wide ≡ true → held head.data_start file ≤ head.data_length)
    → else_followed wide file head ≡ tagged file head
pass_both true file head few = pass_last file head (few refl)
pass_both false file head few = refl

-- at a chunk there are three parts to come and more
pub three_left : (n place : ℕ) (head : SeenHead) (wide : Bool) → 3 ≤ steps_left n (stages.Chunk head place wide)
three_left n place head true = omega arith
three_left n place head false = omega arith

-- sizes that are rejected by what is counted of a file are rejected by what it holds
pub sizes_rejected : (s : WavSpecEx) (counted len start n m : ℕ) → size_fault s counted start m ≡ Some too_long
    → size_fault s counted start m ≡ size_fault s len start n
    → is_pair s.spec.sample_format s.spec.bits_per_sample s.bytes_per_sample ≡ true
    → repair_fault s len start n ≡ Some too_long
sizes_rejected s counted len start n m fails same pair = written s len start n pair ∙ sym same ∙ fails

-- the file ends where what is held ends
pub end_is : (file : List ℕ) (d : Damage) → IsMeasured file d → d.head.data_start + d.held ≡ length file
end_is file d m =
    omega (
      arith,
      m.held_is,
      length-drop d.head.data_start file,
      head_inside file d.head.spec_ex d.head.data_length d.head.data_start m.head_is,
    )

-- a file of 2^33 bytes and more has too many
too_long_file : (s : WavSpecEx) (len start n : ℕ) → IsSoundSpec s → len ≤ 2 ^ 32 → 20 ≤ start
    → 2 ^ 33 ≤ start + n → greatest_u32 < riff_size start (right_length s len n)
too_long_file s len start n sound small after many =
    grind (arith, common_steps, held_cases, lt-div-mul-add, le-mul_of_pos_right)

-- a length up to there serves
pub length_serves : (s : WavSpecEx) (len start size : ℕ) (file : List ℕ) → IsSoundSpec s → len ≤ 2 ^ 32
    → 20 ≤ start → IsLengthOf size file → start ≤ length file → start ≤ min size (2 ^ 33)
    → (size_fault s len start (min size (2 ^ 33) - start) ≡ size_fault s len start (held start file))
    × (size_fault s len start (min size (2 ^ 33) - start) ≡ None → min size (2 ^ 33) - start ≡ held start file)
unfolding size_fault
length_serves s len start size file sound small after same inside within =
    grind (arith, common_steps, length-drop, cases_lt, nat_tests, too_long_file)

-- one byte after the data at most is counted
pub shown_small : (start len : ℕ) (file : List ℕ) → len < 2 ^ 32 → shown_length start len file ≤ 2 ^ 32
shown_small start len file small = grind (arith, common_steps, uncounted_cases)

-- a file that is measured has this length
pub tag_length : (size : ℕ) (file : List ℕ) (d : Damage) → IsLengthOf size file → IsMeasured file d
    → d.head.data_start + d.held ≤ size → IsSoundDamage d → size ≡ length file
tag_length size file d same m inside sound =
    grind (arith, common_steps, cases_lt, check_fits, end_is, too_long_file, shown_small)

-- and it has fewer bytes than any RIFF size says
pub measured_small : (file : List ℕ) (d : Damage) → IsSoundDamage d → IsMeasured file d → length file < 2 ^ 33
measured_small file d sound m =
    grind (arith, common_steps, cases_lt, check_fits, end_is, too_long_file, shown_small)

-- how a file is found whose data nothing follows, by whether its sizes are right and no pad byte is missing
pub found_by_sizes : (looks : Bool) (file : List ℕ) (head : SeenHead) (right : Bool)
    → (looks && followed file head) ≡ false → has_right file head ≡ right
    → IsFoundAs looks file head (state_of right false (has_all file head))
found_by_sizes looks file head right none is = cc (none, is)

-- whether both sizes are right, by those that are measured
pub right_sizes_are : (file : List ℕ) (d : Damage) → IsSoundDamage d → IsMeasured file d
    → field 4 file ≡ d.sizes.riff_size → d.head.data_length ≡ d.sizes.data_length
    → has_pad d.sizes.data_length d.held ≡ true → has_right file d.head ≡ true
right_sizes_are file d sound m riff len pad =
    grind (arith, common_steps, sound.sizes.riff, sound.sizes.length_is, m.held_is, m.shown_is, riff, len, pad)

pub wrong_sizes_are : (file : List ℕ) (d : Damage) → IsSoundDamage d → IsMeasured file d
    → ((field 4 file ≡ d.sizes.riff_size) → (d.head.data_length ≡ d.sizes.data_length)
    → has_pad d.sizes.data_length d.held ≡ true → ⊥)
    → has_right file d.head ≡ false
wrong_sizes_are file d sound m wrong =
    grind (arith, common_steps, sound.sizes.riff, sound.sizes.length_is, m.held_is, m.shown_is)

-- the check fails by the data length that a look saw as it does by the one that the file shows
pub shown_serves : (s : WavSpecEx) (start : ℕ) (head : SeenHead) (file : List ℕ) → IsSoundSpec s
    → head.data_length < 2 ^ 32
    → 20 ≤ start → start ≤ length file → head.data_start ≡ start → IsShown file head → shown_of head ≤ 2 ^ 32
    → (size_fault s (shown_of head) start (held start file)
    ≡ size_fault s (shown_length start head.data_length file) start (held start file))
    × (size_fault s (shown_of head) start (held start file) ≡ None
    → shown_of head ≡ shown_length start head.data_length file)
unfolding size_fault
shown_serves s start head file sound small after inside at shown few =
    grind (arith, common_steps, length-drop, cases_lt, nat_tests, too_long_file, shown_small)

-- what is counted of a file serves for what it holds and shows
pub counts_serve : (s : WavSpecEx) (head : SeenHead) (size : ℕ) (file : List ℕ) → IsSoundSpec s
    → head.data_length < 2 ^ 32 → 20 ≤ head.data_start → IsLengthOf size file
    → head.data_start ≤ length file → head.data_start ≤ min size (2 ^ 33) → IsShown file head
    → shown_of head ≤ 2 ^ 32
    → (size_fault s (shown_of head) head.data_start (min size (2 ^ 33) - head.data_start)
    ≡ size_fault s (shown_length head.data_start head.data_length file) head.data_start (held head.data_start file))
    × (size_fault s (shown_of head) head.data_start (min size (2 ^ 33) - head.data_start) ≡ None
    → (min size (2 ^ 33) - head.data_start ≡ held head.data_start file)
    × (shown_of head ≡ shown_length head.data_start head.data_length file))
counts_serve s head size file sound small after same inside within shown few =
    let start = head.data_start in
    let counts = length_serves s (shown_of head) start size file sound few after same inside within in
    let shows = shown_serves s start head file sound small after inside refl shown few in (
      counts.0 ∙ shows.0,
      λ none. (counts.1 none, shows.1 (sym counts.0 ∙ none)),
    )

-- a single byte after the data, which was read
pub last_read : (start len : ℕ) (file bytes : List ℕ) → held start file ≡ len + 1
    → bytes ≡ take 1 (drop (start + len) file)
    → (length bytes ≡ 1) × (uncounted (drop len (drop start file)) ≡ (if nat_lt 0 (slice_index bytes 0) then 1 else 0))
unfolding uncounted
last_read start len file bytes one is = grind (arith, common_steps, drop-drop, length-drop, length-take, take_all)

-- where other than one byte follows the data none is counted
pub none_counted : (start len : ℕ) (file : List ℕ) → (held start file ≡ len + 1 → ⊥) → shown_length start len file ≡ len
none_counted start len file not = grind (arith, common_steps, length-drop, uncounted_cases)

-- the bytes of a part that were read into the front of a buffer
pub part_read : (count asked asked_for place place_for size : ℕ) (given after contents now : List ℕ)
    → length given ≡ size → size ≡ asked → count ≤ size → now ≡ contents
    → take count given ≡ take size (drop place now) → asked ≡ asked_for → place ≡ place_for
    → take count (given ++ after) ≡ take asked_for (drop place_for contents)
part_read count asked asked_for place place_for size given after contents now long size_is within same is a p =
    grind (arith, common_steps, take-append-le)
