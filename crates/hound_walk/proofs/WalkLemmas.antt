-- The definitions of the walk at bytes in pieces.
use Rattle.std.proofs.lemmas.Grind.{common_steps}
use Rattle.std.proofs.Common.{◌≡◌, ℕ, ◌+◌, ◌≤◌, Bool, true, false, not, List, [], ◌∷◌, ◌++◌, length, take, drop, slice_range, refl, sym, ap, ◌∙◌, arith, take_at, drop_at, length-append, append_assoc, le-ltb, length-take, length-drop, Option, Some, None}
use Rattle.std.specs.Str.{bytes_eq}
use Rattle.std.proofs.lemmas.Slice.Eq.{bytes_eq-Decides}
use Rattle.hound_spec.specs.declared.spec.WavSpecEx.{WavSpecEx}
use Rattle.hound_walk.specs.declared.cause.Cause.TheVariants.{Format}
use Rattle.hound_walk.specs.declared.cause.Reason.TheVariants.{NoRiffTag}
use Rattle.hound_walk.specs.declared.chunks.ChunkRead.{ChunkRead}
use Rattle.hound_walk.specs.declared.chunks.ChunkRead.TheVariants.{Data, Other}
use Rattle.hound_number.specs.{number}
use Rattle.hound_walk.specs.Grammar.{Chunk, IsChunk, chunk_bytes, Chunks, joined, last_spec, Head, spec_after, front_fault}
use Rattle.hound_spec.specs.{greatest_u32, padded, riff_tag, wave_tag, data_tag}
use Rattle.hound_walk.specs.Walking.{ReadsChunk, ReadsContent, Walked}

pub ne_test : (r b : Bool) (x tag now lit : List ℕ) → r ≡ not (bytes_eq x now) → x ≡ tag → now ≡ lit
    → r ≡ b → bytes_eq tag lit ≡ not b
ne_test r b x tag now lit e k l t = grind (arith, common_steps)

pub same_tag : (tag lit : List ℕ) → bytes_eq tag lit ≡ true → tag ≡ lit
same_tag tag lit e = (bytes_eq-Decides tag lit).0 e

pub no_riff : (h ys : List ℕ) → length h ≡ 4 → bytes_eq h riff_tag ≡ false
    → front_fault (h ++ ys) ≡ Some (Format NoRiffTag)
unfolding front_fault
no_riff h ys l e =
    let enough = le-ltb (length (h ++ ys)) 4 (omega (arith, length-append h ys)) in
    rw (enough, take_at h ys 4 l, e) refl

-- eight bytes are a tag and a length
pub halves : (h : List ℕ) → length h ≡ 8 → h ≡ take 4 h ++ slice_range h 4 8
halves h l = grind (arith, common_steps)

pub chunk_from : (c : ℕ) (found : Option WavSpecEx) (h : List ℕ) (t : ChunkRead) (ys zs : List ℕ)
    → length h ≡ 8 → c + 8 ≤ greatest_u32
    → ReadsContent c found (take 4 h) (number (slice_range h 4 8)) t ys zs
    → ReadsChunk c found t (h ++ ys) zs
chunk_from c found h (Data spec n) ys zs l room (is, f, k, e) =
    let size = slice_range h 4 8 in (
      f,
      room,
      size,
      simp (length-take, length-drop) (omega arith),
      sym k,
      grind (arith, common_steps, halves h l, same_tag (take 4 h) data_tag is),
    )
chunk_from c found h (Other next taken) ys zs l room (content, n, other, sound, limit, f, k, e) =
    let size = slice_range h 4 8 in
    let four : length size ≡ 4 = simp (length-take, length-drop) (omega arith) in
    let tag_four : length (take 4 h) ≡ 4 = simp length-take (omega arith) in (
      record { tag = take 4 h; size = size; content = content },
      record { tag = tag_four; size = four; content = n; other = other; sound = sound },
      limit,
      f,
      omega (arith, k, length-append (take 4 h) (size ++ content), length-append size content),
      grind (arith, common_steps, halves h l),
    )

Chunks-more : (c : ℕ) (ps : List Chunk) (p : Chunk) → Chunks c ps → IsChunk p
    → c + length (joined ps) + 8 + padded (number p.size) ≤ greatest_u32
    → Chunks c (ps ++ p ∷ [])
Chunks-more c [] p each is limit = (is, omega arith, tt)
Chunks-more c (q ∷ ps) p (first, room, each) is limit = (
  first,
  room,
  Chunks-more (c + length (chunk_bytes q)) ps p each is (omega (arith, length-append (chunk_bytes q) (joined ps))),
)

last_spec-more : (found : Option WavSpecEx) (ps : List Chunk) (p : Chunk)
    → last_spec found (ps ++ p ∷ []) ≡ spec_after (last_spec found ps) p.tag
    (number p.size) p.content
last_spec-more found [] p = refl
last_spec-more found (q ∷ ps) p =
    last_spec-more (spec_after found q.tag (number q.size) q.content) ps p

joined-more : (ps : List Chunk) (p : Chunk) (rest : List ℕ)
    → joined (ps ++ p ∷ []) ++ rest ≡ joined ps ++ (chunk_bytes p ++ rest)
joined-more ps p rest = grind (arith, common_steps)

length-joined-more : (ps : List Chunk) (p : Chunk)
    → length (joined (ps ++ p ∷ [])) ≡ length (joined ps) + length (chunk_bytes p)
length-joined-more ps p = grind (arith, common_steps)

-- one more chunk
pub walked_more : (xs ys zs : List ℕ) (c taken : ℕ) (found next : Option WavSpecEx)
    → Walked xs ys found c → ReadsChunk c found (Other next taken) ys zs → Walked xs zs next taken
walked_more xs ys zs c taken found next w (p, is, limit, f, k, e) = record {
  chunks = w.chunks ++ p ∷ [];
  walk = record {
    size = w.walk.size;
    four = w.walk.four;
    whole = cc (w.walk.whole, e, joined-more w.chunks p zs);
    each = Chunks-more 0 w.chunks p w.walk.each is (omega (arith, w.taken_is));
  };
  found_is = grind (arith, common_steps, last_spec-more None w.chunks p);
  taken_is = omega (arith, k, w.taken_is, length-joined-more w.chunks p);
}

-- whole chunks, and the header of the data
pub head_from : (xs ys zs : List ℕ) (found : Option WavSpecEx) (taken : ℕ) (spec : WavSpecEx)
    (len h : ℕ) → Walked xs ys found taken → ReadsChunk taken found (Data spec len) ys zs
    → h ≡ 12 + taken + 8 → Head xs spec len h × (zs ≡ drop h xs)
head_from xs ys zs found taken spec len h w (is, limit, size, four, n, e) at =
    let body = joined w.chunks in
    let start = w.walk.size in
    let all : xs ≡ riff_tag ++ (start ++ (wave_tag ++ (body ++ (data_tag ++ (size ++ zs))))) =
    w.walk.whole ∙ ap (λ t. riff_tag ++ (start ++ (wave_tag ++ (body ++ t)))) e in
    let front = riff_tag ++ (start ++ (wave_tag ++ (body ++ (data_tag ++ size)))) in
    let parted : riff_tag ++ (start ++ (wave_tag ++ (body ++ (data_tag ++ (size ++ zs))))) ≡ front
    ++ zs = simp append_assoc in
    let place : h ≡ 12 + length body + 8 = omega (arith, at, w.taken_is) in
    let long : length front ≡ h = grind (arith, common_steps, w.walk.four, four, place) in (
      record {
        chunks = w.chunks;
        size = size;
        rest = zs;
        walk = record { size = start; four = w.walk.four; whole = all; each = w.walk.each };
        four = four;
        data_len = n;
        limit = omega (arith, limit, w.taken_is);
        spec_is = sym w.found_is ∙ is;
        place = place;
      },
      sym (ap (drop h) (all ∙ parted) ∙ drop_at front zs h long),
    )
