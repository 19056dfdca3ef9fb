-- What contracts see of a durable medium besides its own state: that of the medium within it.
use Rattle.std.specs.Prelude.{◌≡◌, ℕ}
use Rattle.hound_medium.specs.{MediumState}
use Rattle.hound_medium.specs.declared.medium.Placed.{Ghosts}
use Rattle.hound_durable.specs.declared.durable.Durable.{Durable}

-- the state of the medium within
abbrev pub within : {M : Type 0} {g : Ghosts M} → Durable M g → MediumState
within {M} {g} d = g.state d.inner

-- how many bytes had been written at the last Ok flush of the medium within
abbrev pub synced : {M : Type 0} {g : Ghosts M} → Durable M g → ℕ
synced d = (within d).flushed

-- P of two durable media around one that is in the first and then in the second of these states
abbrev pub Around : {M : Type 0} {g : Ghosts M} → MediumState → MediumState →
    (Durable M g → Durable M g → Type 0) → Type 0
Around {M} {g} old new P =
    (first : Durable M g) × (last : Durable M g) × (within first ≡ old) × (within last ≡ new)
    × P first last
