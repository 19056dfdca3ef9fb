-- The words of this crate, for those above it. The file is made by `scripts/make_words.py`.
pub use Rattle.hound_writer.specs.Accepting.{AcceptAnswer, Accepts, AcceptsBytes, AcceptsEach, Adds, AddsAtEach, AddsToFile, AreI16, FitAnswer, IsIoError, IsPublishing, IsStored, OnPublished, OnRejected, StaysStored, StaysTrue, UnlessFailed, container_in, containers_in, faults_reported, i16_bytes, if_marked, mark_of, one, sample_bytes, whole_containers}
pub use Rattle.hound_writer.specs.Appending.{AnswersAppend, AppendAnswer, AppendFault, Appends, FailsCheck, FollowsData, HasOneAppendAnswer, IsAppendFault, IsFileError, IsMediumError, IsNotAppended, NamesFault, PutsNothing, appendable, by_bytes, faulty, too_long}
unfoldable pub use Rattle.hound_writer.specs.Appending.{head_fault}
pub use Rattle.hound_writer.specs.Batch.{IsSameFile, WritesToBatch, batch_bytes, batch_lender, batch_writer, remaining}
pub use Rattle.hound_writer.specs.Beginning.{Begins, BeginsFile, BeginsWith, DoesBeginning, DoesBeginnings, Empties, HasAtMostHeader, HasBegun, IsEmpty, IsNotBegun, LeavesBeginning, PutsHeader, Remains, at_beginning, beginning, header_part, stores_name}
pub use Rattle.hound_writer.specs.Parts.{CountsAtMost, GoesAtEach, GoesOut, GoesToFile, HasSize, IsConsistent, IsLimit, IsPatched, IsPublishResult, Patches, PatchesAtEach, PutsAt, StaysAround, after_out, all_out, as_error, memory_bytes, of_fields}
pub use Rattle.hound_writer.specs.Calls.{AreKnown, Asked, Begun, Call, Does, Ends, Extends, HadData, HasSameCalls, IsKnown, IsSeen, Known, Lead, LeftBy, Opens, RecordedBy, Seen, appended, asked_by_all, found_in, handed_in, made, mark_seen, marked, new_file, publish, result_seen, returned, start_of, unseen, with_memory, write}
unfoldable pub use Rattle.hound_writer.specs.Calls.{Left, Recorded}
pub use Rattle.hound_writer.specs.Writer.{AreFrames, ChangesSizesOnly, Counts, Ghosts, HasHeader, HasRoom, HasSameSamples, IsBegun, IsCounted, IsPadded, IsSixteen, IsSound, IsValid, IsWhole, ReadsFirst, SameButSizes, WriterState, accepted_bytes, accepted_samples, block_length, data_end, data_length, field, padded_end, sample_count}
unfoldable pub use Rattle.hound_writer.specs.Writer.{with_sizes}
pub use Rattle.hound_writer.specs.Publishing.{Checkpoints, Finishes, IsHalfPublished, IsOldOrNew, IsOutside, LeavesWriter, OncePutBefore, Publishes, PublishesAtEach, PublishesTo, PutsFrom, PutsLast, ReadsAs, place_after}
pub use Rattle.hound_writer.specs.Effects.{Log, Performed, Performs, checkpoint, log_kind, nth, pad_effects, size_effects}
pub use Rattle.hound_writer.specs.Recorder.{Advances, AppendsRecorder, AsksForBlock, AsksForCheckpoint, BeginsBlock, BeginsRecorder, CanSave, CannotSave, CutsOff, EffectEnds, EndsEffect, GivesUp, GoesOn, HadNothing, HasBlock, HasCleaned, HasCut, HasData, HasEffect, HasEnded, HasNext, HasNoData, HasNoNext, HasNothing, HasPerformed, HasRoomFor, HasSaved, HasStopped, HasWritten, IsAlive, IsClear, IsSaving, LeavesRoom, MaySave, RejectsBlock, Settles, TakesBlock, ThenGoesOn, after_block, cuts_next, doubted, effects_of, end_of, end_place, error_for, given_up, health_after, is_sound, length_with, once_rejected, recorder_of, saved, stopped}
pub use Rattle.hound_writer.specs.Resuming.{ContinuesAfter, Resumes, ResumesAfter, ends_whole, found_frame, kept_as, kept_length, rest_follows, resumed_recorder}
pub use Rattle.hound_writer.specs.Recording.{AgreeTo, Directed, HasPlace, HasRoomTo, InStep, IsCutOff, IsIdle, IsOrdered, IsRecorderOf, IsSynced, Opened, Resumed, block_known, cut_known, resumed_file, writer_of}
pub use Rattle.hound_writer.specs.Repeating.{IsSaid, Repeats, written_first}
pub mod Accepting
pub mod Appending
pub mod Batch
pub mod Beginning
pub mod Parts
pub mod Calls
pub mod Writer
pub mod Publishing
pub mod Effects
pub mod Recorder
pub mod Resuming
pub mod Recording
pub mod Repeating
