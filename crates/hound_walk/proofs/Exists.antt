-- Bytes have an answer.
use Rattle.std.proofs.Common.{rules}
use Rattle.std.proofs.lemmas.Grind.{common_steps}
use Rattle.std.proofs.Common.{◌≡◌, ℕ, zero, suc, ◌+◌, ◌≤◌, ◌⊎◌, inl, inr, List, [], ◌∷◌, ◌++◌, length, take, drop, slice_range, refl, sym, ap, le_refl, zero-add, ◌∙◌, subst, arith, length-append, append_assoc, length-take, length-drop, length-take-le, Option, Some, None}
use Rattle.std.specs.Str.{bytes_eq}
use Rattle.std.proofs.lemmas.Bool.{cases_Bool}
use Rattle.std.proofs.lemmas.List.{take-append-drop}
use Rattle.hound_spec.specs.declared.spec.WavSpecEx.{WavSpecEx}
use Rattle.hound_walk.specs.declared.cause.Cause.{Cause}
use Rattle.hound_number.specs.{number}
use Rattle.hound_walk.specs.Grammar.{Chunk, IsChunk, chunk_bytes, fmt_fault, Chunks, joined, last_spec, spec_after, front_fault, content_fault, chunk_fault, Answer, readable, unreadable, Answers, HasOneAnswer}
use Rattle.hound_spec.specs.{greatest_u32, padded, riff_tag, wave_tag, data_tag}
use Rattle.hound_walk.proofs.WalkLemmas.{same_tag}
use Rattle.hound_walk.proofs.Unique.{spread, heads_agree, head_no_fault, faults_agree}

-- the header of the data, with a spec before it
abbrev DataEnd : ℕ → Option WavSpecEx → List ℕ → Type 0
DataEnd c found bytes = (spec : WavSpecEx) × (size : List ℕ) × (rest : List ℕ) × (found ≡ Some spec)
    × (c + 8 ≤ greatest_u32) × (length size ≡ 4) × (bytes ≡ data_tag ++ (size ++ rest))

-- a chunk within the limit
abbrev OneChunk : ℕ → List ℕ → Type 0
OneChunk c bytes = (p : Chunk) × (rest : List ℕ) × IsChunk p
    × (c + 8 + padded (number p.size) ≤ greatest_u32) × (bytes ≡ chunk_bytes p ++ rest)

parts : (bytes : List ℕ) → 8 ≤ length bytes → bytes ≡ take 4 bytes ++ (slice_range bytes 4 8 ++ drop 8 bytes)
parts bytes l = grind (arith, common_steps)

no_fault_there : (c : ℕ) (found : Option WavSpecEx) (bytes : List ℕ)
    → chunk_fault c found bytes ≡ None → DataEnd c found bytes ⊎ OneChunk c bytes
unfolding chunk_fault content_fault
no_fault_there c found bytes h =
    let tag = take 4 bytes in
    let size = slice_range bytes 4 8 in
    let len = number size in
    let rest = drop 8 bytes in
    let room : c + 8 ≤ greatest_u32 = grind (arith, common_steps) in
    let enough : 8 ≤ length bytes = grind (arith, common_steps) in
    let four : length size ≡ 4 = simp (length-take, length-drop) (omega arith) in
    let whole = parts bytes enough in
    elim (cases_Bool (bytes_eq tag data_tag)) [
      | inl e ↦ let (spec, is) : (spec : WavSpecEx) × (found ≡ Some spec) = grind (arith, common_steps) in
          inl (spec, size, rest, is, room, four, whole ∙ ap (λ t. t ++ (size ++ rest)) (same_tag tag data_tag e))
      | inr e ↦ let limit : c + 8 + padded len ≤ greatest_u32 = grind (arith, common_steps) in
          let sound : fmt_fault tag len (take (padded len) rest) ≡ None = grind (arith, common_steps) in
          let within : padded len ≤ length rest = grind (arith, common_steps) in
          let n = padded len in
          let p : Chunk = record { tag = tag; size = size; content = take n rest } in
          inr (
            p,
            drop n rest,
            record {
              tag = simp length-take (omega arith);
              size = four;
              content = length-take-le n rest within;
              other = e;
              sound = sound;
            },
            limit,
            whole ∙ ap (λ t. tag ++ (size ++ t)) (sym (take-append-drop n rest)) ∙ sym (spread p (drop n rest)),
          )
    ]

pub fault_or_none : (o : Option Cause) → ((c : Cause) × (o ≡ Some c)) ⊎ (o ≡ None)
fault_or_none None = inr refl
fault_or_none (Some c) = inl (c, refl)

-- how a walk ends
abbrev Ending : ℕ → Option WavSpecEx → List ℕ → Type 0
Ending c found bytes = ((cause : Cause) × (chunk_fault c found bytes ≡ Some cause)) ⊎ DataEnd c found bytes

abbrev Goes : ℕ → Option WavSpecEx → List ℕ → Type 0
Goes c found bytes = (ps : List Chunk) × (rest : List ℕ) × (bytes ≡ joined ps ++ rest) × Chunks c ps
    × Ending (c + length (joined ps)) (last_spec found ps) rest

goes_more : (c : ℕ) (found : Option WavSpecEx) (bytes : List ℕ) (p : Chunk) (rest : List ℕ)
    → IsChunk p → c + 8 + padded (number p.size) ≤ greatest_u32
    → bytes ≡ chunk_bytes p ++ rest
    → Goes (c + length (chunk_bytes p)) (spec_after found p.tag (number p.size) p.content) rest
    → Goes c found bytes
goes_more c found bytes p rest is limit e (ps, end, f, each, ending) =
    let n : c + length (chunk_bytes p) + length (joined ps) ≡ c + length
    (chunk_bytes p ++ joined ps) = omega (arith, length-append (chunk_bytes p) (joined ps)) in (
      p ∷ ps,
      end,
      e ∙ ap (λ t. chunk_bytes p ++ t) f ∙ sym (append_assoc (chunk_bytes p) (joined ps) end),
      (is, limit, each),
      subst (λ i. Ending i (last_spec (spec_after found p.tag (number p.size) p.content) ps) end) n ending,
    )

goes_none : (c : ℕ) (found : Option WavSpecEx) (bytes : List ℕ) → Ending c found bytes → Goes c found bytes
goes_none c found bytes e = let n : c ≡ c + 0 = omega arith in
    ([], bytes, refl, tt, subst (λ i. Ending i found bytes) n e)

long_chunk : (p : Chunk) → IsChunk p → 8 ≤ length (chunk_bytes p)
long_chunk p is = grind (arith, common_steps)

goes : (fuel c : ℕ) (found : Option WavSpecEx) (bytes : List ℕ) → length bytes ≤ fuel → Goes c found bytes
unfolding chunk_fault
goes zero c found bytes l = elim (fault_or_none (chunk_fault c found bytes)) [
  | inl f ↦ goes_none c found bytes (inl f)
  | inr f ↦ absurd (grind (arith, common_steps))
]
goes (suc fuel) c found bytes l = elim (fault_or_none (chunk_fault c found bytes)) [
  | inl f ↦ goes_none c found bytes (inl f)
  | inr f ↦ elim (no_fault_there c found bytes f) [
    | inl d ↦ goes_none c found bytes (inr d)
    | inr (p, rest, is, limit, e) ↦ goes_more c found bytes p rest is limit e (goes fuel (c + length (chunk_bytes p))
        (spec_after found p.tag (number p.size) p.content) rest
        (omega (arith, ap length e, length-append (chunk_bytes p) rest, long_chunk p is)))
  ]
]

front_there : (bytes : List ℕ) → front_fault bytes ≡ None → (size : List ℕ) × (rest : List ℕ) × (length size ≡ 4)
    × (bytes ≡ riff_tag ++ (size ++ (wave_tag ++ rest)))
unfolding front_fault
front_there bytes h = search (rules, slice_range, length-take, length-drop, take-append-drop, same_tag, parts)

ending_answer : (bytes size rest : List ℕ) → length size ≡ 4
    → bytes ≡ riff_tag ++ (size ++ (wave_tag ++ rest)) → Goes 0 None rest
    → (a : Answer) × Answers bytes a
ending_answer bytes size rest four e (ps, end, w, each, inl (cause, f)) = (
  unreadable cause,
  inr (
    ps,
    end,
    record {
      size = size;
      four = four;
      whole = cc (e, w);
      each = each;
    },
    rw (zero-add (length (joined ps))) at f,
  ),
)
ending_answer bytes size rest four e (ps, end, w, each, inr (spec, dsize, after, f, limit, dfour, d)) = (
  readable spec (number dsize) (12 + length (joined ps) + 8),
  record {
    chunks = ps;
    size = dsize;
    rest = after;
    walk = record {
      size = size;
      four = four;
      whole = cc (e, w, d);
      each = each;
    };
    four = dfour;
    data_len = refl;
    limit = omega arith;
    spec_is = f;
    place = refl;
  },
)

pub some_answer : (bytes : List ℕ) → (a : Answer) × Answers bytes a
some_answer bytes = elim (fault_or_none (front_fault bytes)) [
  | inl (c, f) ↦ (unreadable c, inl f)
  | inr f ↦ let p = front_there bytes f in
      ending_answer bytes p.0 p.1 p.2 p.3 (goes (length p.1) 0 None p.1 (le_refl _))
]

pub same_answer : (bytes : List ℕ) (a b : Answer) → Answers bytes a → Answers bytes b → b ≡ a
same_answer bytes (readable s m h) (readable t n k) a b = let e =
    heads_agree bytes s t m n h k a b in
    cc (e.0, e.1, e.2)
same_answer bytes (readable s m h) (unreadable c) a b = absurd (head_no_fault bytes s m h c a b)
same_answer bytes (unreadable c) (readable s m h) a b = absurd (head_no_fault bytes s m h c b a)
same_answer bytes (unreadable c) (unreadable d) a b = ap unreadable (faults_agree bytes d c b a)

pub one_answer : (bytes : List ℕ) → HasOneAnswer bytes
one_answer bytes = let s = some_answer bytes in (s.0, s.1, λ b h. same_answer bytes s.0 b s.1 h)
