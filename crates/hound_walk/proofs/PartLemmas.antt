-- Walks whose bytes are handed in, part after part.
use Rattle.std.proofs.Common.{rules}
use Rattle.std.proofs.lemmas.Grind.{common_steps}
use Rattle.std.proofs.Common.{◌≡◌, ℕ, ◌+◌, ◌-◌, ◌*◌, ◌/◌, ◌≤◌, ◌<◌, Bool, cond, nat_lt, is_ok, zero, suc, ◌∷◌, inl, inr, true, false, List, [], ◌++◌, length, take, drop, slice_range, refl, sym, ap, ◌∙◌, subst, arith, take-append-drop, take_at, drop_at, length-append, length-take, length-drop, length-take-le, append_assoc, le-ltb, Option, Some, None, Ok, Err}
use Rattle.std.proofs.lemmas.List.{drop-drop, drop-take}
use Rattle.std.specs.Str.{bytes_eq}
use Rattle.hound_number.specs.{Account, number}
use Rattle.hound_spec.specs.declared.spec.WavSpecEx.{WavSpecEx}
use Rattle.hound_spec.specs.{greatest_u32, padded, riff_tag, wave_tag, fmt_tag, data_tag}
use Rattle.hound_walk.specs.declared.cause.Cause.{Cause}
use Rattle.hound_walk.specs.declared.cause.Cause.TheVariants.{Ended, Format}
use Rattle.hound_walk.specs.declared.cause.Reason.TheVariants.{FmtSize, NoDataChunk}
use Rattle.hound_walk.specs.Grammar.{fmt_len, fmt_of, fmt_said, Rejected, front_fault, content_fault, chunk_fault, fmt_fault, spec_after, cut_fault, Chunk, Head}
use Rattle.hound_walk.proofs.WalkLemmas.{walked_more, head_from, same_tag}
use Rattle.std.proofs.lemmas.Bool.{cases_lt, false≢true}
use Rattle.hound_walk.specs.Walking.{CountsFailed, Walked, Rejects}
use Rattle.hound_walk.specs.declared.cause.HeadError.{HeadError}
use Rattle.hound_walk.specs.declared.cause.HeadError.TheVariants.{Failed, Rejected as Caused}
use Rattle.hound_walk.specs.Parts.{Reaches, IsAt, IsAfter, parts_within}
use Rattle.hound_walk.specs.declared.parts.Part.{Part}
use Rattle.hound_walk.specs.declared.parts.Part.TheVariants.{Header, Last}
use Rattle.hound_walk.specs.declared.parts.HeadWalk.{HeadWalk}

empty : (ys : List ℕ) → length ys ≡ 0 → ys ≡ []
empty ys e = grind (arith, common_steps)

-- what is known of the cause of an error
pub rejects_at : (e : HeadError) (c : Cause) (P : Cause → Type 0) → e ≡ Caused c → Rejects e P → P c
rejects_at e c P is r = subst (λ d. Rejects d P) is r

-- an error of memory has a cause, since no read of it fails
pub caused : (A : Type 0) (e : HeadError) (c : Cause)
    → (let a : Account (Unit {0}) = record { failures = 0; kept = tt } in
    CountsFailed {Kept = Unit {0}} {A = A} (Some a) (Some a) (Err e)) → Rejects e (λ d. c ≡ d) → e ≡ Caused c
caused A (Failed e) c same is = absurd (omega (arith, ap (λ (b : Account (Unit {0})). b.failures) same))
caused A (Caused d) c same is = ap Caused (sym is)

cut_at_end : (n : ℕ) (after : List ℕ) → length after < n → cut_fault n after ≡ Some Ended
cut_at_end n after less = grind (arith, common_steps)

-- the first twelve bytes of a file decide its front
pub front_fault_of : (file : List ℕ) (c : Cause) → front_fault (take 12 file) ≡ Some c → front_fault file ≡ Some c
unfolding front_fault
front_fault_of file c is = grind (arith, common_steps)

pub front_walked : (file size ys : List ℕ) → take 12 file ≡ riff_tag ++ (size ++ (wave_tag ++ ys))
    → length size ≡ 4 → Walked file (drop 12 file) None 0
front_walked file size ys e four =
    let short : length ys ≡ 0 =
    omega (arith, ap length e, length-append size (wave_tag ++ ys), length-take 12 file, four) in
    let none : ys ≡ [] = empty ys short in
    let twelve : take 12 file ≡ riff_tag ++ (size ++ (wave_tag ++ [])) =
    e ∙ ap (λ l. riff_tag ++ (size ++ (wave_tag ++ l))) none in
    record {
      chunks = [];
      walk = record {
        size = size;
        four = four;
        whole = sym (take-append-drop 12 file) ∙ ap (λ l. l ++ drop 12 file) twelve ∙ simp append_assoc;
        each = tt;
      };
      found_is = refl;
      taken_is = refl;
    }

-- what reaches after whole chunks has a fault
pub rejected_at : (file rest : List ℕ) (found : Option WavSpecEx) (c : ℕ) (cause : Cause)
    → Walked file rest found c → chunk_fault c found rest ≡ Some cause → Rejected file cause
rejected_at file rest found c cause w is = search rules

pub over_fault : (c : ℕ) (found : Option WavSpecEx) (rest : List ℕ) → greatest_u32 < c + 8
    → chunk_fault c found rest ≡ Some (Format NoDataChunk)
unfolding chunk_fault
over_fault c found rest over = grind (arith, common_steps)

pub header_cut : (c : ℕ) (found : Option WavSpecEx) (rest : List ℕ) → c + 8 ≤ greatest_u32
    → length (take 8 rest) < 8 → chunk_fault c found rest ≡ Some Ended
unfolding chunk_fault
header_cut c found rest room less = grind (arith, common_steps)

pub header_fault : (c : ℕ) (found : Option WavSpecEx) (rest h : List ℕ) → c + 8 ≤ greatest_u32
    → h ≡ take 8 rest → 8 ≤ length h
    → chunk_fault c found rest
    ≡ content_fault c found (take 4 h) (number (slice_range h 4 8)) (drop 8 rest)
unfolding chunk_fault
header_fault c found rest h room is l = grind (arith, common_steps)

-- a header, and what reaches after it
pub header_is : (rest h : List ℕ) → h ≡ take 8 rest → 8 ≤ length h
    → rest ≡ take 4 h ++ (slice_range h 4 8 ++ drop 8 rest)
header_is rest h is l = grind (arith, common_steps, take-append-drop 8 rest)

-- whole chunks are inside the file
walked_inside : (file : List ℕ) (found : Option WavSpecEx) (c : ℕ)
    → Walked file (drop (12 + c) file) found c → 12 + c ≤ length file
walked_inside file found c w = grind (arith, common_steps)

passed_long : (file tag size after : List ℕ) (c : ℕ) → 12 + c ≤ length file
    → drop (12 + c) file ≡ tag ++ (size ++ after) → length tag ≡ 4 → length size ≡ 4
    → length file ≡ 12 + c + (8 + length after)
passed_long file tag size after c inside is tag_four four = omega (
  arith,
  inside,
  length-drop (12 + c) file,
  ap length is,
  length-append tag (size ++ after),
  length-append size after,
  tag_four,
  four,
)

passed_rest : (file tag size after : List ℕ) (c len : ℕ) → drop (12 + c) file ≡ tag ++ (size ++ after)
    → length tag ≡ 4 → length size ≡ 4
    → drop (12 + (c + 8 + padded len)) file ≡ drop (padded len) after
passed_rest file tag size after c len is tag_four four =
    let at : 12 + (c + 8 + padded len) ≡ (12 + c) + (8 + padded len) = omega arith in
    let eight : length (tag ++ size) ≡ 8 = omega (arith, length-append tag size, tag_four, four) in
    let parted : tag ++ (size ++ after) ≡ (tag ++ size) ++ after = simp append_assoc in
    ap (λ i. drop i file) at ∙ sym (drop-drop (8 + padded len) (12 + c) file)
    ∙ ap (drop (8 + padded len)) (is ∙ parted) ∙ sym (drop-drop (padded len) 8 ((tag ++ size) ++ after))
    ∙ ap (drop (padded len)) (drop_at (tag ++ size) after 8 eight)

cut_off : (c : ℕ) (found : Option WavSpecEx) (tag size after : List ℕ) (len : ℕ) → length tag ≡ 4
    → length size ≡ 4 → number size ≡ len → bytes_eq tag data_tag ≡ false
    → c + 8 + padded len ≤ greatest_u32 → fmt_fault tag len (take (padded len) after) ≡ None
    → length after < padded len → chunk_fault c found (tag ++ (size ++ after)) ≡ Some Ended
unfolding chunk_fault content_fault
cut_off c found tag size after len tag_four four says other limit sound less =
    let rest = tag ++ (size ++ after) in
    let h = tag ++ size in
    let eight : length h ≡ 8 = omega (arith, length-append tag size, tag_four, four) in
    let parted : rest ≡ h ++ after = simp append_assoc in
    let is_tag : take 4 rest ≡ tag = take_at tag (size ++ after) 4 tag_four in
    let is_size : slice_range rest 4 8 ≡ size =
    ap (take 4) (drop_at tag (size ++ after) 4 tag_four) ∙ take_at size after 4 four in
    let is_rest : drop 8 rest ≡ after = ap (drop 8) parted ∙ drop_at h after 8 eight in
    let enough = le-ltb (length rest) 8 (omega (arith, ap length parted, length-append h after, eight)) in
    let room = le-ltb greatest_u32 (c + 8) (omega (arith, limit)) in
    let within = le-ltb greatest_u32 (c + 8 + padded len) limit in
    rw (room, enough, is_tag, is_size, is_rest, says, other, within, sound)
    (cut_at_end (padded len) after less)

-- a whole chunk after whole chunks, or the file ends inside it
pub passed : (file tag size after : List ℕ) (found next : Option WavSpecEx) (c len : ℕ)
    → Walked file (drop (12 + c) file) found c → drop (12 + c) file ≡ tag ++ (size ++ after)
    → length tag ≡ 4 → length size ≡ 4 → number size ≡ len → bytes_eq tag data_tag ≡ false
    → c + 8 + padded len ≤ greatest_u32 → fmt_fault tag len (take (padded len) after) ≡ None
    → next ≡ spec_after found tag len (take (padded len) after)
    → Reaches file next (c + 8 + padded len)
passed file tag size after found next c len w is tag_four four says other limit sound f =
    let rest = drop (12 + c) file in
    let to = c + 8 + padded len in
    let long : length file ≡ 12 + c + (8 + length after) = passed_long file tag size after c
    (walked_inside file found c w) is tag_four four in
    elim (cases_lt (length after) (padded len)) [
      | inl less ↦ inr (
        omega (arith, less, long),
        rejected_at file rest found c Ended w
            (ap (chunk_fault c found) is ∙ cut_off c found tag size after len tag_four four says other limit sound
            less),
      )
      | inr whole ↦ inl (
          let content = take (padded len) after in
          let p : Chunk = record { tag = tag; size = size; content = content } in
          let n : length content ≡ padded len = length-take-le (padded len) after whole in
          let left = drop (padded len) after in
          let same : drop (12 + to) file ≡ left = passed_rest file tag size after c len is tag_four four in
          subst (λ l. Walked file l next to) (sym same)
          (walked_more file rest left c to found next w (
            p,
            record { tag = tag_four; size = four; content = rw says n; other = other; sound = rw says sound },
            rw says limit,
            rw says f,
            omega (arith, n, tag_four, four, length-append tag (size ++ content), length-append size content),
            is ∙ ap (λ l. tag ++ (size ++ l)) (sym (take-append-drop (padded len) after)) ∙ simp append_assoc,
          ))
          )
    ]

-- the content of a header's chunk begins eight bytes on
pub header_parts : (file h : List ℕ) (c : ℕ) → h ≡ take 8 (drop (12 + c) file) → 8 ≤ length h
    → drop (12 + c) file ≡ take 4 h ++ (slice_range h 4 8 ++ drop (20 + c) file)
header_parts file h c is l =
    let at : 12 + c + 8 ≡ 20 + c = omega arith in
    header_is (drop (12 + c) file) h is l
    ∙ ap (λ r. take 4 h ++ (slice_range h 4 8 ++ r)) (drop-drop 8 (12 + c) file ∙ ap (λ i. drop i file) at)

pub tag_long : (h : List ℕ) → 8 ≤ length h → length (take 4 h) ≡ 4
tag_long h l = length-take-le 4 h (omega (arith, l))

pub size_long : (h : List ℕ) → 8 ≤ length h → length (slice_range h 4 8) ≡ 4
size_long h l = length-take-le 4 (drop 4 h) (omega (arith, l, length-drop 4 h))

-- the header of the data
pub head_at : (file h : List ℕ) (found : Option WavSpecEx) (c : ℕ) (spec : WavSpecEx) (len : ℕ)
    → Walked file (drop (12 + c) file) found c → h ≡ take 8 (drop (12 + c) file) → 8 ≤ length h
    → c + 8 ≤ greatest_u32 → bytes_eq (take 4 h) data_tag ≡ true → found ≡ Some spec
    → len ≡ number (slice_range h 4 8) → Head file spec len (12 + c + 8)
head_at file h found c spec len w is l room tag f k =
    (head_from file (drop (12 + c) file) (drop (20 + c) file) found c spec len (12 + c + 8) w (
      f,
      room,
      slice_range h 4 8,
      size_long h l,
      sym k,
      header_parts file h c is l ∙ ap (λ t. t ++ (slice_range h 4 8 ++ drop (20 + c) file))
          (same_tag (take 4 h) data_tag tag),
    ) refl).0

-- a header at fault
pub rejected_header : (file h : List ℕ) (found : Option WavSpecEx) (c len : ℕ) (cause : Cause)
    → Walked file (drop (12 + c) file) found c → h ≡ take 8 (drop (12 + c) file) → 8 ≤ length h
    → c + 8 ≤ greatest_u32 → len ≡ number (slice_range h 4 8)
    → ((rest : List ℕ) → content_fault c found (take 4 h) len rest ≡ Some cause) → Rejected file cause
rejected_header file h found c len cause w is l room k bad =
    let rest = drop (12 + c) file in
    rejected_at file rest found c cause w
    (header_fault c found rest h room is l
    ∙ ap (λ n. content_fault c found (take 4 h) n (drop 8 rest)) (sym k) ∙ bad (drop 8 rest))

-- the part after a content is requested at its place
pub reaches : (file : List ℕ) (next : HeadWalk) (content read : ℕ) (found : Option WavSpecEx) (to : ℕ)
    → Reaches file found to → IsAfter content read next.part → next.found ≡ found
    → next.taken ≡ to → (read ≡ content → to + 12 ≤ length file) → IsAt file next
reaches file next content read found to come beyond f t inside = grind (arith, common_steps)

-- eight bytes of a header are inside the file
pub header_inside : (file h : List ℕ) (c : ℕ) → h ≡ take 8 (drop (12 + c) file) → 8 ≤ length h → 20 + c ≤ length file
header_inside file h c is l =
    omega (arith, l, ap length is, length-take 8 (drop (12 + c) file), length-drop (12 + c) file)

-- a chunk that is skipped
pub passed_header : (file h : List ℕ) (found : Option WavSpecEx) (c len : ℕ)
    → Walked file (drop (12 + c) file) found c → h ≡ take 8 (drop (12 + c) file) → 8 ≤ length h
    → len ≡ number (slice_range h 4 8) → bytes_eq (take 4 h) data_tag ≡ false
    → bytes_eq (take 4 h) fmt_tag ≡ false → c + 8 + padded len ≤ greatest_u32
    → Reaches file found (c + 8 + padded len)
unfolding spec_after
passed_header file h found c len w is l k other no_fmt limit =
    passed file (take 4 h) (slice_range h 4 8) (drop (20 + c) file) found found c len w
    (header_parts file h c is l) (tag_long h l) (size_long h l) (sym k) other limit
    (rw no_fmt refl) (rw no_fmt refl)

-- the used part decides what a fmt chunk says
fmt_same : (len : ℕ) (bytes after : List ℕ) → bytes ≡ take (fmt_len len) after
    → fmt_of len (take (padded len) after) ≡ fmt_of len bytes
fmt_same len bytes after is = grind (arith, common_steps)

fmt_at_fault : (c : ℕ) (found : Option WavSpecEx) (size after : List ℕ) (len : ℕ) (cause : Cause)
    → length size ≡ 4 → number size ≡ len → c + 8 + padded len ≤ greatest_u32
    → fmt_of len (take (padded len) after) ≡ Err cause
    → chunk_fault c found (fmt_tag ++ (size ++ after)) ≡ Some cause
unfolding chunk_fault content_fault
fmt_at_fault c found size after len cause four says limit read =
    let rest = fmt_tag ++ (size ++ after) in
    let h = fmt_tag ++ size in
    let eight : length h ≡ 8 = omega (arith, four) in
    let is_size : slice_range rest 4 8 ≡ size = take_at size after 4 four in
    let is_rest : drop 8 rest ≡ after = drop_at h after 8 eight in
    let enough = le-ltb (length rest) 8 (omega (arith, length-append size after, four)) in
    let room = le-ltb greatest_u32 (c + 8) (omega (arith, limit)) in
    let within = le-ltb greatest_u32 (c + 8 + padded len) limit in
    rw (room, enough, is_size, is_rest, says, within, read) refl

last_and_header : (file bytes : List ℕ) (c : ℕ) → bytes ≡ take 9 (drop (11 + c) file)
    → drop 1 bytes ≡ take 8 (drop (12 + c) file)
last_and_header file bytes c is =
    let at : 11 + c + 1 ≡ 12 + c = omega arith in
    ap (drop 1) is ∙ drop-take 1 8 (drop (11 + c) file)
    ∙ ap (take 8) (drop-drop 1 (11 + c) file ∙ ap (λ i. drop i file) at)

-- a fmt chunk that is read, of which the used part was handed in
pub passed_fmt : (file size bytes : List ℕ) (found : Option WavSpecEx) (spec : WavSpecEx) (c len : ℕ)
    → Walked file (drop (12 + c) file) found c → length size ≡ 4 → number size ≡ len
    → drop (12 + c) file ≡ fmt_tag ++ (size ++ drop (20 + c) file) → c + 8 + padded len ≤ greatest_u32
    → bytes ≡ take (fmt_len len) (drop (20 + c) file) → fmt_of len bytes ≡ Ok spec
    → Reaches file (Some spec) (c + 8 + padded len)
unfolding spec_after
passed_fmt file size bytes found spec c len w four says parts limit is read =
    let after = drop (20 + c) file in
    let same : fmt_of len (take (padded len) after) ≡ Ok spec = fmt_same len bytes after is ∙ read in
    passed file fmt_tag size after found (Some spec) c len w parts refl four says refl limit
    (rw same refl) (rw same refl)

-- a fmt chunk at fault
pub rejected_fmt : (file size bytes : List ℕ) (found : Option WavSpecEx) (c len : ℕ) (cause : Cause)
    → Walked file (drop (12 + c) file) found c → length size ≡ 4 → number size ≡ len
    → drop (12 + c) file ≡ fmt_tag ++ (size ++ drop (20 + c) file) → c + 8 + padded len ≤ greatest_u32
    → bytes ≡ take (fmt_len len) (drop (20 + c) file) → fmt_of len bytes ≡ Err cause
    → Rejected file cause
rejected_fmt file size bytes found c len cause w four says parts limit is read =
    let after = drop (20 + c) file in
    let rest = drop (12 + c) file in
    let same : fmt_of len (take (padded len) after) ≡ Err cause = fmt_same len bytes after is ∙ read in
    rejected_at file rest found c cause w
    (ap (chunk_fault c found) parts ∙ fmt_at_fault c found size after len cause four says limit same)

-- the fmt chunk that a part asks for is inside the file, and its used part if it has no fault
pub fmt_inside : (file bytes : List ℕ) (c n : ℕ) → bytes ≡ take n (drop (20 + c) file)
    → n ≤ length bytes → 20 + c ≤ length file → 20 + c + n ≤ length file
fmt_inside file bytes c n is l inside = grind (arith, common_steps)

pub chunk_inside : (file size : List ℕ) (found : Option WavSpecEx) (c : ℕ)
    → Walked file (drop (12 + c) file) found c → length size ≡ 4
    → drop (12 + c) file ≡ fmt_tag ++ (size ++ drop (20 + c) file) → 20 + c ≤ length file
chunk_inside file size found c w four parts = grind (arith, common_steps)

-- the last byte of a content and a header: if there is one, the chunks before it are whole
pub last_is_there : (file bytes : List ℕ) (found : Option WavSpecEx) (c : ℕ) → Reaches file found c
    → bytes ≡ take 9 (drop (11 + c) file) → 0 < length bytes
    → Walked file (drop (12 + c) file) found c × (drop 1 bytes ≡ take 8 (drop (12 + c) file))
last_is_there file bytes found c given is some =
    grind (arith, common_steps, length-take, length-drop, last_and_header)

-- if there is none, the file has ended
pub last_is_missing : (file bytes : List ℕ) (found : Option WavSpecEx) (c : ℕ) → Reaches file found c
    → bytes ≡ take 9 (drop (11 + c) file) → length bytes ≡ 0 → Rejected file Ended
last_is_missing file bytes found c given is none = grind (arith, common_steps)

-- a spec comes of some bytes
some_fmt : (len : ℕ) (bytes : List ℕ) (spec : WavSpecEx) → fmt_of len bytes ≡ Ok spec → 0 < length bytes
unfolding fmt_said
some_fmt len [] spec is = absurd (by (nat_lt len 16) (ap (fmt_said len) (sym (none (fmt_len len))) ∙ is))
  where
    none : (n : ℕ) → take {A = ℕ} n [] ≡ []
    none zero = refl
    none (suc n) = refl

    by : (b : Bool) → cond b (Err (Format FmtSize)) (Err Ended) ≡ Ok spec → ⊥
    by true is = false≢true (ap is_ok is)
    by false is = false≢true (ap is_ok is)
some_fmt len (b ∷ bytes) spec is = omega arith

-- after the content of a chunk whose header the file has, fewer parts of it are left
fewer_after : (n c content read taken : ℕ) (part : Part) → IsAfter content read part → taken ≡ c + 8 + content
    → 20 + c < n → parts_within n part taken < 2 * ((n - (12 + c)) / 8)
fewer_after n c content read taken Header after is inside = omega (arith, is, inside)
fewer_after n c content read taken Last after is inside = omega (arith, is, inside)
fewer_after n c content read taken _ after is inside = absurd after

-- so it is after a fmt chunk
pub nearer_within : (n c len read : ℕ) (bytes : List ℕ) (spec : WavSpecEx) (next : HeadWalk)
    → fmt_of len bytes ≡ Ok spec → IsAfter (padded len) read next.part → next.taken ≡ c + 8 + padded len
    → length bytes ≤ n - (20 + c) → parts_within n next.part next.taken < 2 * ((n - (12 + c)) / 8)
nearer_within n c len read bytes spec next is after taken few =
    fewer_after n c (padded len) read next.taken next.part after taken
    (omega (arith, few, some_fmt len bytes spec is))
