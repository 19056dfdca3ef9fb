-- The words of this crate, for those above it. The file is made by `scripts/make_words.py`.
pub use Rattle.hound_reader.specs.Reader.{AnswersNext, AnswersRead, AnswersReadMany, AnswersSamples, AreContainers, AreItems, CountsTaken, FindsSamples, GivesItem, GivesItems, GivesItemsOfBytes, HasGiven, HasGiven-prop, HasSoundCounts, HasWholeFrames, IsNext, IsNotOpened, OpensSource, ReaderState, ReadsBlock, TookBytes, block_bytes, further, meaning_at, over_bytes, rejection_at, requested, samples_left, taken_without}
pub use Rattle.hound_reader.specs.Samples.{LendsNext, TakesNext, lender, lent_reader, taken_reader}
pub use Rattle.hound_reader.specs.Seeking.{Follows, HasSought, IsAtCount, IsMeaningOf, IsWhereCounted, PassesItem, ReadsInPlace, Recounts, Seeks, bytes_before, container_at, count_after, samples_before, way_to}
pub use Rattle.hound_reader.specs.Blocks.{AreFirstSamples, EndsEarly, GetsAll, GetsBlock, IsCauseOf, IsCutAfter, IsGetError, IsReasonOf, PassesBytes}
pub mod Reader
pub mod Samples
pub mod Seeking
pub mod Blocks
