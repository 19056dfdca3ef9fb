-- The words of this crate, for those above it. The file is made by `scripts/make_words.py`.
pub use Rattle.hound_number.specs.Io.{Account, CountsRead, CountsReads, IfEnded, NoneFailed, OneFailed, ReportsEnding, WhereKnown, Writes, one_failure_more}
pub use Rattle.hound_number.specs.Number.{AreBytes, bytes_of, mix, number, signed_bytes_of, signed_number, signed_of, twos_complement}
pub mod Io
pub mod Number
