-- The words of this crate, for those above it. The file is made by `scripts/make_words.py`.
pub use Rattle.hound_sample.specs.Container.{IsEncoded, Rejection, WritesContainer, all_containers, and_more, bytes_in, containers, error_of, fits, if_fits, int_bytes, joined_containers, offset_byte, too_wide, unsupported}
unfoldable pub use Rattle.hound_sample.specs.Container.{int_container, pattern_container}
pub use Rattle.hound_sample.specs.ContainerLaws.{contained, int_container-in_width, pattern_container-in_width}
pub use Rattle.hound_sample.specs.Reading.{FillsFront, ReadRejection, Reads, ReadsContainer, ReadsEach, ReadsItem, TakesContainer, TakesTooFew, answer_of, error_of_read, error_of_sample, first_reason, float_rejection, int_meaning, int_rejection, items_of, low_i16, misfit, other_format, pattern, read_error, reason_of}
pub use Rattle.hound_sample.specs.Scale.{ComesBack, clipped, difference, double_of_int, float_of, float_of_int, full_scale, next_state, noise, scaled, scaled_to, with_bits}
unfoldable pub use Rattle.hound_sample.specs.Scale.{state_after, with_noise}
pub mod Container
pub mod ContainerLaws
pub mod Reading
pub mod Scale
