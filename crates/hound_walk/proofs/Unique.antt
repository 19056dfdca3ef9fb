-- For given bytes there is one answer.
use Rattle.std.proofs.lemmas.Grind.{common_steps}
use Rattle.std.proofs.Common.{◌≡◌, ℕ, ◌+◌, ◌≤◌, inl, inr, true, List, [], ◌∷◌, ◌++◌, length, take, drop, refl, sym, ap, ◌∙◌, subst, arith, take_at, drop_at, length-append, append_assoc, le-ltb, Option, Some, None}
use Rattle.std.specs.Str.{bytes_eq}
use Rattle.std.proofs.lemmas.Bool.{true≢false}
use Rattle.std.proofs.lemmas.List.{append_cancel_left}
use Rattle.std.proofs.lemmas.Option.{same_Some}
use Rattle.hound_spec.specs.declared.spec.WavSpecEx.{WavSpecEx}
use Rattle.hound_walk.specs.declared.cause.Cause.{Cause}
use Rattle.hound_number.specs.{number}
use Rattle.hound_walk.specs.Grammar.{Chunk, IsChunk, chunk_bytes, Chunks, joined, last_spec, Walk, Head, Rejected, front_fault, content_fault, chunk_fault}
use Rattle.hound_spec.specs.{greatest_u32, padded, riff_tag, wave_tag, data_tag}

-- fronts of one length
same_front : (a b x y : List ℕ) → length a ≡ length b → a ++ x ≡ b ++ y → (a ≡ b) × (x ≡ y)
same_front a b x y l e = (
  sym (take_at a x (length a) refl) ∙ ap (take (length a)) e ∙ take_at b y (length a) (sym l),
  sym (drop_at a x (length a) refl) ∙ ap (drop (length a)) e ∙ drop_at b y (length a) (sym l),
)

pub spread : (p : Chunk) (x : List ℕ) → chunk_bytes p ++ x ≡ p.tag ++ (p.size ++ (p.content ++ x))
spread p x = grind (arith, common_steps)

same_chunk : (p q : Chunk) (x y : List ℕ) → IsChunk p → IsChunk q
    → chunk_bytes p ++ x ≡ chunk_bytes q ++ y → (p ≡ q) × (x ≡ y)
same_chunk p q x y isp isq e = grind (arith, common_steps, same_front, spread)

-- no chunk begins here
abbrev Ends : ℕ → List ℕ → Type 0
Ends k bytes =
    (p : Chunk) (rest : List ℕ) → IsChunk p → k + 8 + padded (number p.size) ≤ greatest_u32
    → bytes ≡ chunk_bytes p ++ rest → ⊥

same_walk : (c i j : ℕ) (ps qs : List Chunk) (x y : List ℕ) → Chunks c ps → Chunks c qs
    → joined ps ++ x ≡ joined qs ++ y → i ≡ c + length (joined ps) → j ≡ c + length (joined qs)
    → Ends i x → Ends j y → (ps ≡ qs) × (x ≡ y)
same_walk c i j [] [] x y cp cq e k l ex ey = (refl, e)
same_walk c i j [] (q ∷ qs) x y cp (is, limit, cq) e k l ex ey =
    absurd (ex q (joined qs ++ y) is (omega arith) (e ∙ append_assoc (chunk_bytes q) (joined qs) y))
same_walk c i j (p ∷ ps) [] x y (is, limit, cp) cq e k l ex ey =
    absurd (ey p (joined ps ++ x) is (omega arith) (sym e ∙ append_assoc (chunk_bytes p) (joined ps) x))
same_walk c i j (p ∷ ps) (q ∷ qs) x y (isp, lp, cp) (isq, lq, cq) e k l ex ey =
    let one = same_chunk p q (joined ps ++ x) (joined qs ++ y) isp isq
    (sym (append_assoc (chunk_bytes p) (joined ps) x) ∙ e ∙ append_assoc (chunk_bytes q) (joined qs) y) in
    let cq' = subst (λ t. Chunks (c + length (chunk_bytes t)) qs) (sym one.0) cq in
    let n : length (chunk_bytes p) ≡ length (chunk_bytes q) = ap (λ t. length (chunk_bytes t)) one.0 in
    let more = same_walk (c + length (chunk_bytes p)) i j ps qs x y cp cq' one.1
    (omega (arith, length-append (chunk_bytes p) (joined ps)))
    (omega (arith, n, length-append (chunk_bytes q) (joined qs))) ex ey in
    (cc (one.0, more.0), more.1)

content_sound : (c : ℕ) (found : Option WavSpecEx) (p : Chunk) (rest : List ℕ) → IsChunk p
    → c + 8 + padded (number p.size) ≤ greatest_u32
    → content_fault c found p.tag (number p.size) (p.content ++ rest) ≡ None
unfolding content_fault
content_sound c found p rest is limit = grind (arith, common_steps)

-- a chunk within the limit has no fault
chunk_sound : (c : ℕ) (found : Option WavSpecEx) (p : Chunk) (rest : List ℕ) → IsChunk p
    → c + 8 + padded (number p.size) ≤ greatest_u32
    → chunk_fault c found (chunk_bytes p ++ rest) ≡ None
unfolding chunk_fault
chunk_sound c found p rest is limit =
    let room = le-ltb greatest_u32 (c + 8) (omega arith) in
    let whole = spread p rest in
    let enough = le-ltb (length (p.tag ++ (p.size ++ (p.content ++ rest)))) 8 (omega (
      arith,
      is.tag,
      is.size,
      length-append p.tag (p.size ++ (p.content ++ rest)),
      length-append p.size (p.content ++ rest),
    )) in
    let tag : take 4 (p.tag ++ (p.size ++ (p.content ++ rest))) ≡ p.tag = take_at p.tag _ 4 is.tag in
    let back : drop 4 (p.tag ++ (p.size ++ (p.content ++ rest))) ≡ p.size ++ (p.content ++ rest) =
    drop_at p.tag _ 4 is.tag in
    let size : take 4 (p.size ++ (p.content ++ rest)) ≡ p.size = take_at p.size _ 4 is.size in
    let all : drop 8 (p.tag ++ (p.size ++ (p.content ++ rest))) ≡ p.content ++ rest =
    grind (arith, common_steps, drop_at, length-append, append_assoc) in
    ap (chunk_fault c found) whole
    ∙ rw (room, enough, tag, all, back, size) (content_sound c found p rest is limit)

-- at a fault or the data, no chunk begins
fault_ends : (c : ℕ) (found : Option WavSpecEx) (bytes : List ℕ) (cause : Cause)
    → chunk_fault c found bytes ≡ Some cause → Ends c bytes
fault_ends c found bytes cause h p rest is limit e = grind (arith, common_steps, chunk_sound)

data_ends : (c : ℕ) (size rest : List ℕ) → Ends c (data_tag ++ (size ++ rest))
data_ends c size rest p more is limit e =
    let same = same_front data_tag p.tag (size ++ rest) _ (sym is.tag) (e ∙ spread p more) in
    let yes : bytes_eq p.tag data_tag ≡ true = rw (← same.0) refl in
    true≢false (sym yes ∙ is.other)

data_sound : (c : ℕ) (spec : WavSpecEx) (size rest : List ℕ) → c + 8 ≤ greatest_u32
    → length size ≡ 4 → chunk_fault c (Some spec) (data_tag ++ (size ++ rest)) ≡ None
unfolding chunk_fault content_fault
data_sound c spec size rest limit four = grind (arith, common_steps)

front_sound : (size rest : List ℕ) → length size ≡ 4 → front_fault (riff_tag ++ (size ++ (wave_tag ++ rest))) ≡ None
unfolding front_fault
front_sound size rest four =
    let enough = le-ltb (length (riff_tag ++ (size ++ (wave_tag ++ rest)))) 12
    (omega (arith, four, length-append size (wave_tag ++ rest))) in
    let some = le-ltb (length (riff_tag ++ (size ++ (wave_tag ++ rest)))) 4
    (omega (arith, four, length-append size (wave_tag ++ rest))) in
    let back : drop 4 (size ++ (wave_tag ++ rest)) ≡ wave_tag ++ rest = drop_at size (wave_tag ++ rest) 4 four in
    rw (some, enough, back) refl

no_front_fault : (bytes : List ℕ) (chunks : List Chunk) (rest : List ℕ) → Walk bytes chunks rest
    → front_fault bytes ≡ None
no_front_fault bytes chunks rest w = grind (arith, common_steps, front_sound)

-- two walks of the same bytes that both end
pub same_walks : (bytes : List ℕ) (ps qs : List Chunk) (x y : List ℕ) → Walk bytes ps x
    → Walk bytes qs y → Ends (length (joined ps)) x → Ends (length (joined qs)) y
    → (ps ≡ qs) × (x ≡ y)
same_walks bytes ps qs x y v w ex ey = grind (arith, common_steps, append_cancel_left, same_front, same_walk)

pub heads_agree : (bytes : List ℕ) (s t : WavSpecEx) (m n h k : ℕ) → Head bytes s m h
    → Head bytes t n k → (s ≡ t) × (m ≡ n) × (h ≡ k)
heads_agree bytes s t m n h k a b =
    let w = same_walks bytes a.chunks b.chunks _ _ a.walk b.walk (data_ends _ a.size a.rest)
    (data_ends _ b.size b.rest) in
    let e = same_front a.size b.size a.rest b.rest (a.four ∙ sym b.four) (append_cancel_left data_tag _ _ w.1) in (
      cc (w.0, a.spec_is, b.spec_is),
      cc (e.0, a.data_len, b.data_len),
      cc (w.0, a.place, b.place),
    )

pub head_no_fault : (bytes : List ℕ) (s : WavSpecEx) (m h : ℕ) (cause : Cause) → Head bytes s m h
    → Rejected bytes cause → ⊥
head_no_fault bytes s m h cause a (inl e) = let n = no_front_fault bytes a.chunks _ a.walk in cc
head_no_fault bytes s m h cause a (inr (chunks, rest, walk, fault)) =
    let w = same_walks bytes a.chunks chunks _ _ a.walk walk (data_ends _ a.size a.rest)
    (fault_ends _ (last_spec None chunks) rest cause fault) in
    let none = data_sound (length (joined a.chunks)) s a.size a.rest a.limit a.four in
    cc (w.0, w.1, none, fault, a.spec_is)

pub faults_agree : (bytes : List ℕ) (c d : Cause) → Rejected bytes c → Rejected bytes d → c ≡ d
faults_agree bytes c d (inl e) (inl f) = same_Some c d (sym e ∙ f)
faults_agree bytes c d (inl e) (inr (chunks, rest, walk, fault)) =
    let n = no_front_fault bytes chunks rest walk in cc
faults_agree bytes c d (inr (chunks, rest, walk, fault)) (inl f) =
    let n = no_front_fault bytes chunks rest walk in cc
faults_agree bytes c d (inr (ps, x, v, e)) (inr (qs, y, w, f)) =
    let s = same_walks bytes ps qs x y v w (fault_ends _ (last_spec None ps) x c e)
    (fault_ends _ (last_spec None qs) y d f) in
    cc (s.0, s.1, e, f)
