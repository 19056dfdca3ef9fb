-- The words of this crate, for those above it. The file is made by `scripts/make_words.py`.
pub use Rattle.hound_durable.specs.Losses.{Ascends, IsBelow, IsItsFault, IsLastBefore, LeadsBack, OnlySyncs, SurvivesLoss, byte_at, left_of, left_own, own, place_of, replays_own}
pub use Rattle.hound_durable.specs.Durables.{Around, synced, within}
pub use Rattle.hound_durable.specs.Targets.{by_target, law_by_target}
pub mod Losses
pub mod Durables
pub mod Targets
