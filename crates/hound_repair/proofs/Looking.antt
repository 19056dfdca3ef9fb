-- What is read of a source at a place.
use Rattle.std.proofs.Common.{◌≡◌, ℕ, ◌+◌, ◌≤◌, List, ◌++◌, length, take, drop, sym, ap, ◌∙◌, le_refl, drop_at, length-take-le}
use Rattle.std.proofs.lemmas.Slice.{take-put_mid_below}
use borrow.Rule.Slice.PartMut.{put_mid, post_of}
use lib.Seq.{take-add, take-append-le}
use Rattle.std.proofs.lemmas.List.{drop-drop}

-- a front of a buffer, and what was written after it
put_beyond : (at k n : ℕ) (buf given : List ℕ) → at ≤ length buf → n ≤ length given
    → take (at + n) (put_mid at k buf given) ≡ take at buf ++ take n given
put_beyond at k n buf given within fits =
    let after = post_of at k buf in
    let front = take-put_mid_below at k buf given at (le_refl at) within in
    take-add at n (put_mid at k buf given)
    ∙ (λ i. front i ++ take n (drop_at (take at buf) (given ++ after) at (length-take-le at buf within) i))
    ∙ ap (λ l. take at buf ++ l) (take-append-le n given after fits)

-- a buffer that has the bytes at a place so far has more of them after a `get`
pub more_bytes : (place at k n : ℕ) (buf given contents now : List ℕ) (here : ℕ)
    → at ≤ length buf → n ≤ length given → here ≡ place + at → now ≡ contents
    → take at buf ≡ take at (drop place contents)
    → take n given ≡ take n (drop here now)
    → take (at + n) (put_mid at k buf given) ≡ take (at + n) (drop place contents)
more_bytes place at k n buf given contents now here within fits at_place same so_far more =
    put_beyond at k n buf given within fits
    ∙ (λ i. so_far i ++ (more ∙ (λ j. take n (drop (at_place j) (same j)))
    ∙ ap (take n) (sym (drop-drop at place contents))) i)
    ∙ sym (take-add at n (drop place contents))
