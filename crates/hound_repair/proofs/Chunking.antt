-- Chunks after the data, one by one.
use Rattle.std.proofs.lemmas.Grind.{common_steps}
use Rattle.std.proofs.Common.{◌≡◌, ℕ, min, suc, ◌+◌, ◌≤◌, ◌<◌, Bool, true, false, if◌then◌else◌, ◌&&◌, ◌||◌, nat_lt, nat_le, List, [], ◌∷◌, Option, None, Some, length, drop, take, refl, sym, ap, arith, length-drop, length-take, eqb-true}
use Rattle.std.specs.Prelude.{◌==◌, bytes_eq}
use Rattle.std.specs.List.{list_all, list_any}
use Rattle.hound_spec.specs.{padded}
use Rattle.hound_repair.specs.Held.{are_at_most, are_chunks, begins_chunk, chunk_content, ends_with_id3, has_known_tag, has_tag, if_some, is_followed, known_tags, said_length}

-- no bytes are no chunks
pub none_left : (bytes : List ℕ) → length bytes ≡ 0 → are_chunks bytes ≡ true
unfolding are_chunks are_at_most
none_left bytes e = grind (arith, common_steps)

-- what follows a chunk is the same, whatever the limit
by_content : (o : Option ℕ) (f g : ℕ → Bool) → ((content : ℕ) → f content ≡ g content) → if_some o f ≡ if_some o g
by_content o f g same = grind (arith, common_steps)

-- how many chunks they are at most is no matter
enough : (n m : ℕ) (bytes : List ℕ) → length bytes ≤ n → length bytes ≤ m → are_at_most n bytes ≡ are_at_most m bytes
unfolding are_at_most
enough (suc n) (suc m) (x ∷ bytes) a b =
    ap (λ rest. has_known_tag (x ∷ bytes) || rest)
    (by_content (chunk_content (x ∷ bytes)) (λ content. are_at_most n (drop (8 + content) (x ∷ bytes)))
    (λ content. are_at_most m (drop (8 + content) (x ∷ bytes)))
    (λ content. enough n m (drop (8 + content) (x ∷ bytes)) (omega (arith, length-drop (8 + content) (x ∷ bytes), a))
    (omega (arith, length-drop (8 + content) (x ∷ bytes), b))))
enough _ _ _ a b = grind (arith, common_steps)

-- bytes that begin with a known tag
pub known_chunk : (bytes : List ℕ) → 0 < length bytes → has_known_tag bytes ≡ true → are_chunks bytes ≡ true
unfolding are_chunks are_at_most
known_chunk bytes some known = grind (arith, common_steps)

-- bytes that don't begin with a chunk
pub no_chunk : (bytes : List ℕ) → 0 < length bytes → has_known_tag bytes ≡ false
    → chunk_content bytes ≡ None → are_chunks bytes ≡ false
unfolding are_chunks are_at_most
no_chunk bytes some other none = grind (arith, common_steps)

-- bytes that do, with another tag
pub chunk_then : (bytes : List ℕ) (content : ℕ) → 0 < length bytes → has_known_tag bytes ≡ false
    → chunk_content bytes ≡ Some content → are_chunks bytes ≡ are_chunks (drop (8 + content) bytes)
unfolding are_chunks are_at_most
chunk_then bytes content some other is = grind (arith, common_steps, length-drop, enough)

-- texts of other lengths aren't equal
unequal : (xs ys : List ℕ) → (length xs ≡ length ys → ⊥) → bytes_eq xs ys ≡ false
unequal xs ys not = grind (arith, common_steps)

none_equal : (tags : List (List ℕ)) (bytes : List ℕ) → list_all (λ tag. length tag == 4) tags ≡ true → length bytes < 4
    → list_any (λ tag. bytes_eq tag bytes) tags ≡ false
none_equal [] bytes all few = refl
none_equal (tag ∷ tags) bytes all few =
    let others = none_equal tags bytes in
    grind (arith, common_steps, unequal tag bytes, eqb-true (length tag) 4, others)

-- too few bytes for a tag
pub no_tag : (bytes : List ℕ) → length bytes < 4 → false ≡ has_known_tag bytes
unfolding has_known_tag
no_tag bytes few =
    sym (none_equal known_tags (take 4 bytes) refl (omega (arith, few, length-take 4 bytes)))

-- at most one byte is no chunk
pub none_in_one : (bytes : List ℕ) → length bytes ≤ 1 → begins_chunk bytes ≡ false
unfolding chunk_content
none_in_one bytes few = grind (arith, common_steps, no_tag, no_chunk)

-- nothing follows data after which at most a pad byte is held
pub nothing_follows : (len : ℕ) (bytes : List ℕ) → length bytes ≤ padded len → is_followed len bytes ≡ false
unfolding is_followed ends_with_id3
nothing_follows len bytes few = grind (arith, common_steps, length-drop, none_in_one)

-- the first four bytes show whether there is one
pub tag_is : (bytes tag : List ℕ) → tag ≡ take 4 bytes
    → list_any (λ known. bytes_eq known tag) known_tags ≡ has_known_tag bytes
unfolding has_known_tag
tag_is bytes tag is = ap (λ t. list_any (λ known. bytes_eq known t) known_tags) is

-- how many bytes the content of a chunk takes, by its header and how many bytes there are
abbrev pub content_by : List ℕ → ℕ → Option ℕ
content_by header left =
    if nat_lt left 8 then None
    else if has_tag header && nat_le (8 + said_length header) left
    then Some (padded (said_length header)) else None

pub content_is : (bytes header : List ℕ) (left n : ℕ) → left ≡ length bytes → n ≡ min left 8
    → header ≡ take n bytes → content_by header left ≡ chunk_content bytes
unfolding chunk_content
content_is bytes header left n all count is = grind (arith, common_steps)
