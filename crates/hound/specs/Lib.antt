-- The words of every layer, and the types of the layers below that clauses name, for a crate over this
-- one. Its own types, and the variants of those that it exports, are in `Rattle.hound.specs.declared`.
-- The file is made by `scripts/make_words.py`.
pub use Rattle.hound_number.specs.{Account, CountsRead, CountsReads, IfEnded, NoneFailed, OneFailed, ReportsEnding, WhereKnown, Writes, one_failure_more, AreBytes, bytes_of, mix, number, signed_bytes_of, signed_number, signed_of, twos_complement}
pub use Rattle.hound_number.specs.declared.input.ReadError.{ReadError}
pub use Rattle.hound_spec.specs.{Extension, FmtFields, IsPair, IsWritable, canonical, data_start, data_tag, extended, extensible, extension, extension_bytes, extension_size, fields, fmt_bytes, fmt_fields, fmt_tag, greatest_u16, greatest_u32, guid, ieee_float, is_pair, is_short, long_fmt, mask, padded, padding, pairs, pcm, riff_size, riff_tag, short_fmt, subformat, wave_tag, with_default_width}
unfoldable pub use Rattle.hound_spec.specs.{header, sized_fmt}
pub use Rattle.hound_spec.specs.declared.error.Error.{Error}
pub use Rattle.hound_spec.specs.declared.spec.SampleFormat.{SampleFormat}
pub use Rattle.hound_spec.specs.declared.spec.WavSpec.{WavSpec}
pub use Rattle.hound_spec.specs.declared.spec.WavSpecEx.{WavSpecEx}
pub use Rattle.hound_sample.specs.{IsEncoded, Rejection, WritesContainer, all_containers, and_more, bytes_in, containers, error_of, fits, if_fits, int_bytes, joined_containers, offset_byte, too_wide, unsupported, contained, int_container-in_width, pattern_container-in_width, FillsFront, ReadRejection, Reads, ReadsContainer, ReadsEach, ReadsItem, TakesContainer, TakesTooFew, answer_of, error_of_read, error_of_sample, first_reason, float_rejection, int_meaning, int_rejection, items_of, low_i16, misfit, other_format, pattern, read_error, reason_of, ComesBack, clipped, difference, double_of_int, float_of, float_of_int, full_scale, next_state, noise, scaled, scaled_to, with_bits}
unfoldable pub use Rattle.hound_sample.specs.{int_container, pattern_container, state_after, with_noise}
pub use Rattle.hound_sample.specs.declared.item.SampleError.{SampleError}
pub use Rattle.hound_medium.specs.{FlushedSince, Flushes, Gets, Goes, IsMoved, MediumState, Puts, PutsAll, PutsFirst, Shifts, Span, Stays, WhereKeeps, WhereTells, count_of, faults_after, moment, one_more, overlay, place_reached, placed, put_at, unknown, FailsAt, IsNumbered, SameRequests, calls, greatest_count}
pub use Rattle.hound_durable.specs.{Ascends, IsBelow, IsItsFault, IsLastBefore, LeadsBack, OnlySyncs, SurvivesLoss, byte_at, left_of, left_own, own, place_of, replays_own, Around, synced, within, by_target, law_by_target}
pub use Rattle.hound_walk.specs.{Answer, Answers, AnswersFile, Chunk, Chunks, HasOneAnswer, HasOneFileAnswer, Head, IsChunk, IsDataPlace, IsSoundSpec, Readable, Rejected, Unreadable, Walk, by_subformat, chunk_bytes, cut_fault, data_fault, fault_of, first_fault, fmt_fault, fmt_len, fmt_of, joined, last_spec, ok_of, readable, spec_of, unreadable, width_of, with_format, with_valid_bits, AreTaken, CountsFailed, Gives, IsSoundChunk, IsSoundOption, ReadsChunk, ReadsContent, ReadsFormat, RejectedAfter, Rejects, RejectsFront, ReportsFront, SaysContent, TakesAll, TakesFor, TakesFront, TakesLess, UnreadableAfter, Walked, Walks, chunk_taken, content_taken, content_takes, front_taken, FailsAs, IsRejection, Names, OpensAs, ReportsError, reason_text, AnswersBytes, FindsData, Untouched, account_of, faults_after_walk, unread, IsAfter, IsAhead, IsAt, IsAtPart, IsNearer, IsNearerWithin, IsSoundStep, LeadsTo, Reaches, part_bytes, part_length, part_start, parts_left, parts_within}
unfoldable pub use Rattle.hound_walk.specs.{by_tag, chunk_fault, content_fault, fmt_said, front_fault, spec_after, wave_format, wave_format_extensible, wave_format_ieee_float, wave_format_pcm}
pub use Rattle.hound_walk.specs.declared.cause.Cause.{Cause}
pub use Rattle.hound_walk.specs.declared.cause.HeadError.{HeadError}
pub use Rattle.hound_walk.specs.declared.cause.Reason.{Reason}
pub use Rattle.hound_walk.specs.declared.chunks.FileHead.{FileHead}
pub use Rattle.hound_reader.specs.{AnswersNext, AnswersRead, AnswersReadMany, AnswersSamples, AreContainers, AreItems, CountsTaken, FindsSamples, GivesItem, GivesItems, GivesItemsOfBytes, HasGiven, HasGiven-prop, HasSoundCounts, HasWholeFrames, IsNext, IsNotOpened, OpensSource, ReaderState, ReadsBlock, TookBytes, block_bytes, further, meaning_at, over_bytes, rejection_at, requested, samples_left, taken_without, LendsNext, TakesNext, lender, lent_reader, taken_reader, Follows, HasSought, IsAtCount, IsMeaningOf, IsWhereCounted, PassesItem, ReadsInPlace, Recounts, Seeks, bytes_before, container_at, count_after, samples_before, way_to, AreFirstSamples, EndsEarly, GetsAll, GetsBlock, IsCauseOf, IsCutAfter, IsGetError, IsReasonOf, PassesBytes}
pub use Rattle.hound_writer.specs.{AcceptAnswer, Accepts, AcceptsBytes, AcceptsEach, Adds, AddsAtEach, AddsToFile, AreI16, FitAnswer, IsIoError, IsPublishing, IsStored, OnPublished, OnRejected, StaysStored, StaysTrue, UnlessFailed, container_in, containers_in, faults_reported, i16_bytes, if_marked, mark_of, one, sample_bytes, whole_containers, AnswersAppend, AppendAnswer, AppendFault, Appends, FailsCheck, FollowsData, HasOneAppendAnswer, IsAppendFault, IsFileError, IsMediumError, IsNotAppended, NamesFault, PutsNothing, appendable, by_bytes, faulty, too_long, IsSameFile, WritesToBatch, batch_bytes, batch_lender, batch_writer, remaining, Begins, BeginsFile, BeginsWith, DoesBeginning, DoesBeginnings, Empties, HasAtMostHeader, HasBegun, IsEmpty, IsNotBegun, LeavesBeginning, PutsHeader, Remains, at_beginning, beginning, header_part, stores_name, CountsAtMost, GoesAtEach, GoesOut, GoesToFile, HasSize, IsConsistent, IsLimit, IsPatched, IsPublishResult, Patches, PatchesAtEach, PutsAt, StaysAround, after_out, all_out, as_error, memory_bytes, of_fields, AreKnown, Asked, Begun, Call, Does, Ends, Extends, HadData, HasSameCalls, IsKnown, IsSeen, Known, Lead, LeftBy, Opens, RecordedBy, Seen, appended, asked_by_all, found_in, handed_in, made, mark_seen, marked, new_file, publish, result_seen, returned, start_of, unseen, with_memory, write, AreFrames, ChangesSizesOnly, Counts, Ghosts, HasHeader, HasRoom, HasSameSamples, IsBegun, IsCounted, IsPadded, IsSixteen, IsSound, IsValid, IsWhole, ReadsFirst, SameButSizes, WriterState, accepted_bytes, accepted_samples, block_length, data_end, data_length, field, padded_end, sample_count, Checkpoints, Finishes, IsHalfPublished, IsOldOrNew, IsOutside, LeavesWriter, OncePutBefore, Publishes, PublishesAtEach, PublishesTo, PutsFrom, PutsLast, ReadsAs, place_after, Log, Performed, Performs, checkpoint, log_kind, nth, pad_effects, size_effects, Advances, AppendsRecorder, AsksForBlock, AsksForCheckpoint, BeginsBlock, BeginsRecorder, CanSave, CannotSave, CutsOff, EffectEnds, EndsEffect, GivesUp, GoesOn, HadNothing, HasBlock, HasCleaned, HasCut, HasData, HasEffect, HasEnded, HasNext, HasNoData, HasNoNext, HasNothing, HasPerformed, HasRoomFor, HasSaved, HasStopped, HasWritten, IsAlive, IsClear, IsSaving, LeavesRoom, MaySave, RejectsBlock, Settles, TakesBlock, ThenGoesOn, after_block, cuts_next, doubted, effects_of, end_of, end_place, error_for, given_up, health_after, is_sound, length_with, once_rejected, recorder_of, saved, stopped, ContinuesAfter, Resumes, ResumesAfter, ends_whole, found_frame, kept_as, kept_length, rest_follows, resumed_recorder, AgreeTo, Directed, HasPlace, HasRoomTo, InStep, IsCutOff, IsIdle, IsOrdered, IsRecorderOf, IsSynced, Opened, Resumed, block_known, cut_known, resumed_file, writer_of, IsSaid, Repeats, written_first}
unfoldable pub use Rattle.hound_writer.specs.{head_fault, Left, Recorded, with_sizes}
pub use Rattle.hound_writer.specs.declared.effects.Action.{Action}
pub use Rattle.hound_writer.specs.declared.effects.BeginningEffect.{BeginningEffect}
pub use Rattle.hound_writer.specs.declared.effects.Effect.{Effect}
pub use Rattle.hound_writer.specs.declared.effects.Report.{Report}
pub use Rattle.hound_writer.specs.declared.recorder.Health.{Health}
pub use Rattle.hound_writer.specs.declared.recorder.Phase.{Phase}
pub use Rattle.hound_writer.specs.declared.recorder.Recorder.{Recorder}
pub use Rattle.hound_writer.specs.declared.recorder.RecorderError.{RecorderError}
pub use Rattle.hound_writer.specs.declared.resuming.RepairState.{RepairState}
pub use Rattle.hound_writer.specs.declared.resuming.FoundFile.{FoundFile}
pub use Rattle.hound_repair.specs.{are_right, begins_chunk, broadcast_tags, counts_all, frame_length, frames_held, has_tag, held, if_some, is_printable, is_sample, known_tags, mended, metadata_tags, missing_pad, program_tags, riff_tags, right_length, said_length, shown_length, torn_bytes, update_tags, AreRightSizes, Finds, FindsDamage, HasRightLength, HasUnfitHead, IsFoundAt, IsNoPad, IsNotFound, IsRepairFault, IsSame, IsSoundDamage, LacksRoom, LeavesFor, Looks, ReadsFrames, Repairs, RepairsBytes, UnlessFollowed, as_medium, found_length, frames_found, is_mended, repair_of, shown_of, state_of, torn_found, unfollowed_state, whole_frames, AreEnough, AsksAfter, AsksEffect, AsksMore, AsksNext, AsksOfLook, AsksPart, IsAsked, IsAtChunk, IsAtEnd, IsAtStage, IsFoundAs, IsFoundFrom, IsLengthOf, IsLookFrom, IsLookOf, IsLookedAt, IsMeasured, IsNotFollowed, IsNotRepaired, IsRejectedFor, IsRepair, IsSearched, IsShown, IsSoundHead, IsSoundLook, IsSoundRepairStep, IsSoundRepairing, IsSoundStage, IsUnfollowed, LeavesMended, LeavesPartly, LooksTo, MeasuresTo, MendsAtEach, MendsMedium, MendsThroughLoss, PartlyMended, PerformedOn, PerformsOn, PerformsRepair, Remeasures, RepairsMedium, StageNearer, StaysAt, StaysWith, SurvivesMending, WhereFound, WhereRead, asked_count, asks_for, effects_left, effects_of_task, effects_where, else_followed, failure_of, followed, has_all, has_right, head_of, looks_for_chunks, mending, mending_effects, mends_for, pads, rejected_for, stage_place, steps_left, tagged, DoesFor, IsFoundIn, IsMidway, IsPartlyRepaired, IsRequest, IsTried, IsUnderRepair, contents_after, first_stage}
unfoldable pub use Rattle.hound_repair.specs.{are_at_most, are_chunks, chunk_content, data_held, ends_with_id3, ends_with_pad, has_known_tag, has_pad, is_followed, uncounted, repair_fault, size_fault}
pub use Rattle.hound_repair.specs.declared.look.Damage.{Damage}
pub use Rattle.hound_repair.specs.declared.look.Repair.{Repair}
pub use Rattle.hound_repair.specs.declared.look.SeenHead.{SeenHead}
pub use Rattle.hound_repair.specs.declared.machine.FailedAction.{FailedAction}
pub use Rattle.hound_repair.specs.declared.machine.RepairError.{RepairError}
pub use Rattle.hound_repair.specs.declared.machine.RepairStep.{RepairStep}
pub use Rattle.hound_repair.specs.declared.machine.Repairing.{Repairing}
pub use Rattle.hound_repair.specs.declared.stages.Stage.{Stage}
pub use Rattle.hound_repair.specs.declared.stages.Task.{Task}
pub use Rattle.hound_repair.specs.declared.stages.Unrepairable.{Unrepairable}
pub use Rattle.hound_follow.specs.{FollowsNext, IsNearerAfter, IsSoundFollower, IsSoundLength, IsSoundRecording, LeavesLook, TakesHeaderPart, TakesRead, TakesReport, after_byte, after_cause, after_count, after_length, after_step, after_walk, begun, begun_again, counted_by, counted_to, first_walk, look_ended, look_requests, number_from, part_for, reads_left, recording_of, requested_by, whole_bytes}
pub use Rattle.hound_follow.specs.declared.follower.FollowError.{FollowError}
pub use Rattle.hound_follow.specs.declared.follower.FollowStep.{FollowStep}
pub use Rattle.hound_follow.specs.declared.follower.Follower.{Follower}
pub use Rattle.hound_follow.specs.declared.follower.Look.{Look}
pub use Rattle.hound_follow.specs.declared.follower.Recording.{Recording}
pub use Rattle.hound.specs.Headline.{BeginInOrder, CanonicalAtEnd, CountedAfterLoss, CountedAtEach, FlushedByFlushes, FrontAtEach, FrontInWrites, HasPublished, HasWholeLength, HeadAtEach, Holds, HoldsAtEnd, IfBegun, IsLeftAfter, IsUncut, Keeps, Kept, KeptAfterLoss, KeptWithin, LastsToEnd, LeftWithin, LosesNothing, MixedInPatches, NeverLess, NoFault, OldOrNewInPatches, Promises, PublishedByFlushes, SaidByFlushes, SaysFrames, StoredAtEach, SurvivesAtEnd, accepted, accepted_as_seen, accepted_by_all, accepted_of, begins_at, contents_at, seen}
pub use Rattle.hound.specs.Run.{AnswersAll, AnswersCall, AnswersSession, AnswersStep, BeginsAs, EndsAs, IsNotBegunAs, IsReturned, IsSession, Ran, RunsFrom, RunsOn, RunsOnce, RunsUntil, StopsAt, StopsEarly, Takes, accepted_by, accepted_by_steps, all_steps, asked_by, batch_containers, begun_spec, containers_of, end_call, file_of, is_int, is_sixteen, writer_after}
pub use Rattle.hound.specs.Ending.{actions_left, cuts_left, left_in}
pub mod Headline
pub mod Run
pub mod Ending
