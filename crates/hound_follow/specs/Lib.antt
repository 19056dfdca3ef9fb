-- The words of this crate, for those above it. The file is made by `scripts/make_words.py`.
pub use Rattle.hound_follow.specs.Following.{FollowsNext, IsNearerAfter, IsSoundFollower, IsSoundLength, IsSoundRecording, LeavesLook, TakesHeaderPart, TakesRead, TakesReport, after_byte, after_cause, after_count, after_length, after_step, after_walk, begun, begun_again, counted_by, counted_to, first_walk, look_ended, look_requests, number_from, part_for, reads_left, recording_of, requested_by, whole_bytes}
pub mod Following
