-- The words of this crate, for those above it. The file is made by `scripts/make_words.py`.
pub use Rattle.hound_text.specs.Text.{Breaks, HasLineRoom, IsInputRejected, IsTextRejection, Leads, MayRead, ReadsOn, SayNumbers, SaysNoNumbers, SaysNumber, SaysNumbers, before, begins_with_digit, ended, integer_line, is_digit, is_filled, is_separator, lines_capacity, longer_magnitude, next_place, numbers_from, padded_digits, pattern_line, signed_value, signed_within, without_minus, words}
pub mod Text
