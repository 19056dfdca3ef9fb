pub mod Ascending
pub mod Reading
