-- What contracts see of a medium, what each call does to it, and what holds in each intermediate state.
use Rattle.std.specs.Prelude.{ℕ, zero, suc, List, [], ◌∷◌, take, ◌≡◌, ℤ, pos, negsuc, ◌+◌, ◌-◌, ◌^◌, ◌<◌, ◌≤◌, min, ◌++◌, length, drop, Ok, Err, Result, OnOk, OnErr, MatchResult, Bool, IsTrue, ◌⊎◌}

-- the contents with this byte at this place; zeros fill a gap after the old end
abbrev pub put_at : ℕ → ℕ → List ℕ → List ℕ
put_at zero b [] = b ∷ []
put_at zero b (x ∷ xs) = b ∷ xs
put_at (suc n) b [] = 0 ∷ put_at n b []
put_at (suc n) b (x ∷ xs) = x ∷ put_at n b xs

-- each of the bytes with its place: the first at p, each further one at the next place
abbrev pub placed : ℕ → List ℕ → List (ℕ × ℕ)
placed p [] = []
placed p (b ∷ bs) = (p, b) ∷ placed (suc p) bs

-- the contents after bytes were written at their places, in order
abbrev pub overlay : List ℕ → List (ℕ × ℕ) → List ℕ
overlay c [] = c
overlay c (e ∷ es) = overlay (put_at e.0 e.1 c) es

-- the contents after the first k of the bytes written
abbrev pub moment : List ℕ → List (ℕ × ℕ) → ℕ → List ℕ
moment start past k = overlay start (take k past)

-- A medium as contracts see it: its bytes, the place of the next one to be read or written, and how many calls failed.
-- If it records its past, also the bytes that it began with, each byte written since with its place, and how many of
-- these were written before the last Ok `flush`.
pub record MediumState : Type 0 where
  pub contents : List ℕ
  pub place : ℕ
  pub faults : ℕ
  pub start : List ℕ
  pub past : List (ℕ × ℕ)
  pub flushed : ℕ

-- the record of a medium whose bytes are not known
abbrev pub unknown : MediumState
unknown = record { contents = []; place = 0; faults = 0; start = []; past = []; flushed = 0 }

-- P, if the bytes of a medium are known
abbrev pub WhereTells : Bool → Type 0 → Type 0
WhereTells tells P = IsTrue tells → P

-- P, if the bytes of a medium are known and it records each byte written with its place
abbrev pub WhereKeeps : Bool → Bool → Type 0 → Type 0
WhereKeeps tells keeps P = IsTrue tells → IsTrue keeps → P

-- a count of faults or of calls, grown by one; it stays at the maximum of `u64`
abbrev pub one_more : ℕ → ℕ
one_more faults = min (faults + 1) (2 ^ 64 - 1)

-- the faults after a call: an Err counts one
abbrev pub faults_after : {T E : Type 0} → Result T E → ℕ → ℕ
faults_after (Ok x) faults = faults
faults_after (Err e) faults = one_more faults

-- the place after a call that goes to one: at an Err the old place
abbrev pub place_reached : {T E : Type 0} → Result T E → ℕ → ℕ → ℕ
place_reached (Ok x) to place = to
place_reached (Err e) to place = place

-- the new place is the old one moved by a signed number
abbrev pub IsMoved : ℕ → ℤ → ℕ → Type 0
IsMoved place (pos n) new = new ≡ place + n
IsMoved place (negsuc n) new = new + (n + 1) ≡ place

-- how many bytes a call gave or took: none at an Err
abbrev pub count_of : {E : Type 0} → Result ℕ E → ℕ
count_of (Ok n) = n
count_of (Err e) = 0

-- the bytes stay, and so does the recorded past
pub record Stays (old new : MediumState) : Type 0 where
  pub contents : new.contents ≡ old.contents
  pub start : new.start ≡ old.start
  pub past : new.past ≡ old.past

-- what `go` does
pub record Goes {T E : Type 0} (to : ℕ) (result : Result T E) (old new : MediumState) : Type 0 where
  pub stays : Stays old new
  pub place : new.place ≡ place_reached result to old.place
  pub flushed : new.flushed ≡ old.flushed
  pub faults : new.faults ≡ faults_after result old.faults

-- what `shift` does: it moves to a place that fits in 64 bits, or stays
pub record Shifts {T E : Type 0} (by : ℤ) (result : Result T E) (old new : MediumState) : Type 0
  where
    pub stays : Stays old new
    pub place : MatchResult result (λ _. IsMoved old.place by new.place) (λ _. new.place ≡ old.place)
    pub within : OnOk result (new.place < 2 ^ 64)
    pub flushed : new.flushed ≡ old.flushed
    pub faults : new.faults ≡ faults_after result old.faults

-- what `get` does, which writes its bytes to the front of the buffer: none only at the end or into an empty buffer
pub record Gets {E : Type 0} (buf : List ℕ) (result : Result ℕ E) (old new : MediumState) : Type 0
  where
    pub stays : Stays old new
    pub bytes : take (count_of result) buf ≡ take (count_of result) (drop old.place old.contents)
    pub inside : count_of result ≤ length (drop old.place old.contents)
    pub some : OnOk result (count_of result ≡ 0 → 0 < length buf → drop old.place old.contents ≡ [])
    pub place : new.place ≡ old.place + count_of result
    pub flushed : new.flushed ≡ old.flushed
    pub faults : new.faults ≡ faults_after result old.faults

-- the first n of the bytes were written at the place, in order, and the place moved after them
pub record PutsFirst (keeps : Bool) (bytes : List ℕ) (n : ℕ) (old new : MediumState) : Type 0 where
  pub contents : new.contents ≡ overlay old.contents (placed old.place (take n bytes))
  pub place : new.place ≡ old.place + n
  pub start : new.start ≡ old.start
  pub past : IsTrue keeps → new.past ≡ old.past ++ placed old.place (take n bytes)
  pub flushed : new.flushed ≡ old.flushed

-- what `put` does: it takes as many bytes as it returns, none at an Err
pub record Puts {E : Type 0} (keeps : Bool) (bytes : List ℕ) (result : Result ℕ E)
    (old new : MediumState) : Type 0 where
  pub takes : PutsFirst keeps bytes (count_of result) old new
  pub faults : new.faults ≡ faults_after result old.faults

-- what `flush` does: it marks all that has been written so far
pub record Flushes {T E : Type 0} (result : Result T E) (old new : MediumState) : Type 0 where
  pub stays : Stays old new
  pub place : new.place ≡ old.place
  pub flushed : MatchResult result (λ _. new.flushed ≡ length new.past) (λ _. new.flushed ≡ old.flushed)
  pub faults : new.faults ≡ faults_after result old.faults

-- what a loop over `put` does: it writes `count` bytes, all of them at an Ok and fewer at an Err
pub record PutsAll {T E : Type 0} (keeps : Bool) (bytes : List ℕ) (result : Result T E)
    (old new : MediumState) : Type 0 where
  pub count : ℕ
  pub within : count ≤ length bytes
  pub whole : OnOk result (count ≡ length bytes)
  pub part : OnErr result (count < length bytes)
  pub takes : PutsFirst keeps bytes count old new
  pub faults : new.faults ≡ faults_after result old.faults

-- the last Ok flush is the same one, or a later one
abbrev pub FlushedSince : MediumState → MediumState → Type 0
FlushedSince old new = (new.flushed ≡ old.flushed) ⊎ (length old.past ≤ new.flushed)

-- From old to new, bytes were written, and after each number k of bytes, both ends included, the contents are at a
-- level. It is 0 up to `split` bytes, and one more after each later byte.
pub record Span (At : ℕ → List ℕ → Type 0) (split : ℕ) (old new : MediumState) : Type 0 where
  pub start : new.start ≡ old.start
  pub added : List (ℕ × ℕ)
  pub past : new.past ≡ old.past ++ added
  pub flushed : FlushedSince old new
  pub each : (k : ℕ) → length old.past ≤ k → k ≤ length new.past → At (k - split) (moment new.start new.past k)
