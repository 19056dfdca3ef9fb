-- What a loss of power may leave of a medium, and what contracts see of one that flushes another before it goes back.
use Rattle.std.specs.Prelude.{◌≡◌, ℕ, ◌/◌, ◌<◌, ◌≤◌, List, length, slice_index_or, ◌⊎◌, ◌+◌, ◌-◌, [], drop, Option, Some, None, Bool, IsTrue, cond, Result}
use Rattle.hound_medium.specs.{moment, overlay, MediumState, faults_after}
use Rattle.std.proofs.Common.{ap, sym, ◌∙◌}
use Rattle.std.proofs.lemmas.Bool.{cond-true}

-- the place of the byte written as number i, counted from 0
abbrev pub place_of : List (ℕ × ℕ) → ℕ → ℕ
place_of past i = let x : ℕ × ℕ = slice_index_or past i (0, 0) in x.0

-- of the bytes written as numbers f to k, without k, each later one has the higher place
abbrev pub Ascends : List (ℕ × ℕ) → ℕ → ℕ → Type 0
Ascends past f k = (i j : ℕ) → f ≤ i → i < j → j < k → place_of past i < place_of past j

-- the byte at a place, 0 after the end
abbrev pub byte_at : List ℕ → ℕ → ℕ
byte_at contents i = slice_index_or contents i 0

-- What a loss of power may leave of a medium whose past was flushed up to f, when k bytes had been written: its length
-- is that of some state from f to k, and each sector has, independently, the bytes of some state from f to k.
pub record SurvivesLoss (sector : ℕ) (start : List ℕ) (past : List (ℕ × ℕ)) (f k : ℕ) (contents : List ℕ) : Type 0 where
  pub long : (j : ℕ) × (f ≤ j) × (j ≤ k) × (length contents ≡ length (moment start past j))
  pub sectors : (n : ℕ) → (j : ℕ) × (f ≤ j) × (j ≤ k) × ((i : ℕ) → i / sector ≡ n → i < length contents
      → byte_at contents i ≡ byte_at (moment start past j) i)

-- the state of the medium within, with these counts in place of its own; if it doesn't record its past there is none
abbrev pub own : Bool → MediumState → ℕ → ℕ → MediumState
own keeps s faults flushed = record {
  contents = s.contents;
  place = s.place;
  faults = faults;
  start = s.start;
  past = cond keeps s.past [];
  flushed = cond keeps flushed 0;
}

-- the bytes that are left to be read, if they are known
abbrev pub left_of : Bool → MediumState → Option (List ℕ)
left_of tells s = cond tells (Some (drop s.place s.contents)) None

-- each byte written after the first f has a place below the end
abbrev pub IsBelow : ℕ → List (ℕ × ℕ) → ℕ → Type 0
IsBelow end past f = (i : ℕ) → f ≤ i → i < length past → place_of past i < end

-- some byte written after the first f is at this place or after it
abbrev pub LeadsBack : ℕ → List (ℕ × ℕ) → ℕ → Type 0
LeadsBack to past f = (i : ℕ) × (f ≤ i) × (i < length past) × (to ≤ place_of past i)

-- the last byte written is right before the end, unless that is 0, and not among the first f
abbrev pub IsLastBefore : ℕ → List (ℕ × ℕ) → ℕ → Type 0
IsLastBefore end past f = 0 < end → (f < length past) × (place_of past (length past - 1) + 1 ≡ end)

-- a later state of the medium within: it has been flushed no further, or up to all that was written
pub record OnlySyncs (old new : MediumState) : Type 0 where
  pub grows : old.flushed ≤ new.flushed
  pub is : (new.flushed ≡ old.flushed) ⊎ (new.flushed ≡ length new.past)

-- an Err comes from the medium within, which has counted one fault, and an Ok hides none of it
abbrev pub IsItsFault : {T E : Type 0} → Result T E → MediumState → MediumState → Type 0
IsItsFault result old new = new.faults ≡ faults_after result old.faults

-- a law of the state with counts of its own
pub replays_own : (keeps : Bool) (s : MediumState) (faults flushed : ℕ) → IsTrue keeps
    → s.contents ≡ overlay s.start s.past
    → let o = own keeps s faults flushed in o.contents ≡ overlay o.start o.past
replays_own keeps s faults flushed is law = law ∙ ap (overlay s.start) (sym (cond-true keeps s.past _ is))

-- a law of what is left to be read
pub left_own : (tells : Bool) (s : MediumState) → IsTrue tells → left_of tells s ≡ Some (drop s.place s.contents)
left_own tells s is = cond-true tells (Some (drop s.place s.contents)) None is
