-- The words of this crate, for those above it. The file is made by `scripts/make_words.py`.
pub use Rattle.hound_repair.specs.Held.{are_right, begins_chunk, broadcast_tags, counts_all, frame_length, frames_held, has_tag, held, if_some, is_printable, is_sample, known_tags, mended, metadata_tags, missing_pad, program_tags, riff_tags, right_length, said_length, shown_length, torn_bytes, update_tags}
unfoldable pub use Rattle.hound_repair.specs.Held.{are_at_most, are_chunks, chunk_content, data_held, ends_with_id3, ends_with_pad, has_known_tag, has_pad, is_followed, uncounted}
pub use Rattle.hound_repair.specs.Repairing.{AreRightSizes, Finds, FindsDamage, HasRightLength, HasUnfitHead, IsFoundAt, IsNoPad, IsNotFound, IsRepairFault, IsSame, IsSoundDamage, LacksRoom, LeavesFor, Looks, ReadsFrames, Repairs, RepairsBytes, UnlessFollowed, as_medium, found_length, frames_found, is_mended, repair_of, shown_of, state_of, torn_found, unfollowed_state, whole_frames}
unfoldable pub use Rattle.hound_repair.specs.Repairing.{repair_fault, size_fault}
pub use Rattle.hound_repair.specs.Steps.{AreEnough, AsksAfter, AsksEffect, AsksMore, AsksNext, AsksOfLook, AsksPart, IsAsked, IsAtChunk, IsAtEnd, IsAtStage, IsFoundAs, IsFoundFrom, IsLengthOf, IsLookFrom, IsLookOf, IsLookedAt, IsMeasured, IsNotFollowed, IsNotRepaired, IsRejectedFor, IsRepair, IsSearched, IsShown, IsSoundHead, IsSoundLook, IsSoundRepairStep, IsSoundRepairing, IsSoundStage, IsUnfollowed, LeavesMended, LeavesPartly, LooksTo, MeasuresTo, MendsAtEach, MendsMedium, MendsThroughLoss, PartlyMended, PerformedOn, PerformsOn, PerformsRepair, Remeasures, RepairsMedium, StageNearer, StaysAt, StaysWith, SurvivesMending, WhereFound, WhereRead, asked_count, asks_for, effects_left, effects_of_task, effects_where, else_followed, failure_of, followed, has_all, has_right, head_of, looks_for_chunks, mending, mending_effects, mends_for, pads, rejected_for, stage_place, steps_left, tagged}
pub use Rattle.hound_repair.specs.Driving.{DoesFor, IsFoundIn, IsMidway, IsPartlyRepaired, IsRequest, IsTried, IsUnderRepair, contents_after, first_stage}
pub mod Held
pub mod Repairing
pub mod Steps
pub mod Driving
