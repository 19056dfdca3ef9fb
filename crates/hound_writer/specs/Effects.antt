-- What a recorder does to its file at a checkpoint, one effect after the other, and what it leaves.
use Rattle.std.specs.Prelude.{◌≡◌, ℕ, zero, suc, ◌+◌, ◌-◌, ◌%◌, true, List, [], ◌∷◌, ◌++◌, Option, None, Some, Result, Ok, Err, MatchResult}
use Rattle.std.specs.declared.io.Error.{Error as IoFault}
use Rattle.hound_number.specs.{AreBytes, bytes_of}
use Rattle.hound_medium.specs.{MediumState, Flushes, overlay}
use Rattle.hound_medium.specs.declared.medium.Placed.{Ghosts}
use Rattle.hound_spec.specs.{riff_size}
use Rattle.hound_writer.specs.Parts.{PutsAt}
use Rattle.hound_writer.specs.declared.effects.Effect.{Effect}
use Rattle.hound_writer.specs.declared.effects.Effect.TheVariants.{Sync, Pad, Size}

-- the pad byte after data of an odd length, which end here
abbrev pub pad_effects : ℕ → ℕ → List Effect
pad_effects end zero = []
pad_effects end (suc n) = Pad end ∷ []

-- the sizes of n data bytes from `start` on, once all before them is synced
abbrev pub size_effects : ℕ → ℕ → List Effect
size_effects start n = Sync ∷ Size 4 (riff_size start n) ∷ Size (start - 4) n ∷ Sync ∷ []

-- The effects of a checkpoint of a file whose data begin at `start` and have n bytes, all written.
abbrev pub checkpoint : ℕ → ℕ → List Effect
checkpoint start n = pad_effects (start + n) (n % 2) ++ size_effects start n

-- the one with this number, from 0
abbrev pub nth : {T : Type 0} → List T → ℕ → Option T
nth [] k = None
nth (one ∷ others) zero = Some one
nth (one ∷ others) (suc k) = nth others k

-- A file as effects have left it: the bytes that it began with, each byte written since with its place, how many of
-- them were synced, and what that makes of it.
pub record Log : Type 0 where
  pub state : MediumState
  pub replays : state.contents ≡ overlay state.start state.past
  pub small : AreBytes state.contents

-- a log as a medium whose bytes are known, with every byte that was written
abbrev pub log_kind : Ghosts Log
log_kind = record { tells = true; keeps = true; state = λ log. log.state }

-- what one effect did: at an Err a write may have written a beginning
abbrev pub Performs : Effect → Result (Unit {0}) IoFault → MediumState → MediumState → Type 0
Performs Sync result old new = Flushes result old new
Performs (Pad at) result old new = PutsAt true at (0 ∷ []) result old new
Performs (Size at size) result old new = PutsAt true at (bytes_of 4 size) result old new

-- what effects did, one after the other, up to the first that failed
abbrev pub Performed : List Effect → Result (Unit {0}) IoFault → Log → Log → Type 0
Performed [] result old new = (result ≡ Ok tt) × (new ≡ old)
Performed (effect ∷ effects) result old new =
    (mid : Log) × (this : Result (Unit {0}) IoFault) × Performs effect this old.state mid.state
    × MatchResult this (λ _. Performed effects result mid new)
    (λ fault. (result ≡ Err fault) × (new ≡ mid))
