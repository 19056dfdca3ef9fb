-- A file for which effects were performed again whose end was not reported.
use Rattle.std.specs.Prelude.{◌≡◌, ℕ, ◌≤◌, List, ◌++◌, length, take, true, Result, is_ok}
use Rattle.hound_medium.specs.{MediumState, moment, overlay, placed}

-- a medium after the first n of these bytes were written at a place
abbrev pub written_first : ℕ → List ℕ → ℕ → MediumState → MediumState
written_first at bytes n m = record m {
  contents = overlay m.contents (placed at (take n bytes));
  past = m.past ++ placed at (take n bytes);
}

-- Each state of a file in which effects were performed again is one of a file in which each was performed once, in the
-- same order: after k bytes that of the other after `state k`. They end alike, and no byte of the other was synced
-- before it was written here.
pub record Repeats (once again : MediumState) : Type 0 where
  pub state : ℕ → ℕ
  pub in_order : (j k : ℕ) → j ≤ k → state j ≤ state k
  pub within : (k : ℕ) → state k ≤ length once.past
  pub same : (k : ℕ) → k ≤ length again.past → moment again.start again.past k ≡ moment once.start once.past (state k)
  pub last : state (length again.past) ≡ length once.past
  pub contents : again.contents ≡ once.contents
  pub flushed : again.flushed ≤ length again.past
  pub synced : once.flushed ≤ state again.flushed

-- how the end of an effect is reported: as done only if it is
abbrev pub IsSaid : {T E : Type 0} → Result T E → Result T E → Type 0
IsSaid said result = is_ok said ≡ true → is_ok result ≡ true
