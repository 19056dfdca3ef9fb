-- The words of this crate, for those above it. The file is made by `scripts/make_words.py`.
pub use Rattle.hound_walk.specs.Grammar.{Answer, Answers, AnswersFile, Chunk, Chunks, HasOneAnswer, HasOneFileAnswer, Head, IsChunk, IsDataPlace, IsSoundSpec, Readable, Rejected, Unreadable, Walk, by_subformat, chunk_bytes, cut_fault, data_fault, fault_of, first_fault, fmt_fault, fmt_len, fmt_of, joined, last_spec, ok_of, readable, spec_of, unreadable, width_of, with_format, with_valid_bits}
unfoldable pub use Rattle.hound_walk.specs.Grammar.{by_tag, chunk_fault, content_fault, fmt_said, front_fault, spec_after, wave_format, wave_format_extensible, wave_format_ieee_float, wave_format_pcm}
pub use Rattle.hound_walk.specs.Walking.{AreTaken, CountsFailed, Gives, IsSoundChunk, IsSoundOption, ReadsChunk, ReadsContent, ReadsFormat, RejectedAfter, Rejects, RejectsFront, ReportsFront, SaysContent, TakesAll, TakesFor, TakesFront, TakesLess, UnreadableAfter, Walked, Walks, chunk_taken, content_taken, content_takes, front_taken}
pub use Rattle.hound_walk.specs.Rejections.{FailsAs, IsRejection, Names, OpensAs, ReportsError, reason_text}
pub use Rattle.hound_walk.specs.Sources.{AnswersBytes, FindsData, Untouched, account_of, faults_after_walk, unread}
pub use Rattle.hound_walk.specs.Parts.{IsAfter, IsAhead, IsAt, IsAtPart, IsNearer, IsNearerWithin, IsSoundStep, LeadsTo, Reaches, part_bytes, part_length, part_start, parts_left, parts_within}
pub mod Grammar
pub mod Walking
pub mod Rejections
pub mod Sources
pub mod Parts
