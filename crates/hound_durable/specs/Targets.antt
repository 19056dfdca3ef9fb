-- What contracts see of a target: the medium that it is.
use Rattle.hound_medium.specs.{MediumState}
use Rattle.hound_medium.specs.declared.medium.Placed.{Ghosts}
use Rattle.hound_durable.specs.declared.durable.Durable.{Durable}
use Rattle.hound_durable.specs.declared.target.Target.{Target}
use Rattle.hound_durable.specs.declared.target.Target.TheVariants.{Plain, Synced}

-- the state of the medium that it is
abbrev pub by_target : {M : Type 0} {g : Ghosts M} → (M → MediumState) → (Durable M g → MediumState)
    → Target M g → MediumState
by_target plain synced (Plain medium) = plain medium
by_target plain synced (Synced medium) = synced medium

-- a law of both media is one of the target
pub law_by_target : {M : Type 0} {g : Ghosts M} {plain : M → MediumState} {synced : Durable M g → MediumState}
    → (P : MediumState → Type 0) → ((medium : M) → P (plain medium)) → ((medium : Durable M g) → P (synced medium))
    → (target : Target M g) → P (by_target plain synced target)
law_by_target P plain synced (Plain medium) = plain medium
law_by_target P plain synced (Synced medium) = synced medium
