-- The words of this crate, for those above it. The file is made by `scripts/make_words.py`.
pub use Rattle.hound_slices.specs.Codes.{IsOfKind, Records, Returns, SaysSame, code_for, error_code, error_of_rejection, reason_code}
pub use Rattle.hound_slices.specs.Reading.{Decodes, DecodesSamples, IsCutBefore, IsNumberOf, IsOtherType, IsReadError, MakesContainer, ReadsInto, ReadsSamples, read_check, rejection_error, stored, whole}
pub use Rattle.hound_slices.specs.Writing.{AppendsInPlace, AppendsSamples, CanBeginAt, Encodes, GivesFiller, GivesHeader, GivesSizes, IsAppendingError, IsEncodeError, IsExplicit, IsFile, IsLengthInSector, IsRejectedBy, IsSizeError, IsUnencoded, IsWriteError, Sizes, WritesFile, file_size, filler, spec_from_c}
pub use Rattle.hound_slices.specs.Repairing.{FindsInFile, HasHeadOf, IsDamageError, IsRepairError, IsReported, RepairsFile, state_code, state_of_code}
pub use Rattle.hound_slices.specs.Walks.{AnswersPart, AreAsked, Asks, AsksAgain, AsksOn, FindsHead, HasNoHead, IsHeadOf, IsStepNumber, Steps, TakesPart, bytes_of_part, found_of, part_end, part_of, walk_of, walk_with}
pub use Rattle.hound_slices.specs.Scaling.{CountsClipped, EncodesFloats, IsNoInteger, NarrowsFloats, TakesNumbers, WidensFloats, becomes_infinite, clipped_among, integers}
pub use Rattle.hound_slices.specs.Effects.{GivesBeginning, beginning_of, effect_of, effect_with, report_of}
pub use Rattle.hound_slices.specs.Recording.{BeginsForC, HasRecorderNumbers, block_of, found_file, health_of_code, mends, overwrites, phase_of_code, recorder_of}
pub use Rattle.hound_slices.specs.Repairers.{BeginsRepairer, GivesStep, HasRepairerNumbers, StepsRepairer, after_head, bytes_read, count_of, error_of, failure_of_code, head_of, head_with, if_head, repairing_of, task_of}
pub use Rattle.hound_slices.specs.Searching.{CountsWhole, GuessesData, HasFrames, IsFirstTag, IsKind, IsKindOfSamples, IsTagAt, format_of_fmt, is_mpeg}
unfoldable pub use Rattle.hound_slices.specs.Searching.{kind_of_fmt, kind_of_tag}
pub use Rattle.hound_slices.specs.Followers.{HasFollowerNumbers, StepsFollower, action_of, asked_bytes, count_asked, follower_of, if_recording, look_of, outcome_of, recording_of, recording_with}
pub mod Codes
pub mod Reading
pub mod Writing
pub mod Repairing
pub mod Walks
pub mod Scaling
pub mod Effects
pub mod Recording
pub mod Repairers
pub mod Searching
pub mod Followers
