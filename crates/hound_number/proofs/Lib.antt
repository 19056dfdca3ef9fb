pub mod Counting
pub mod KnownSteps
pub mod Mixing
pub mod Pieces
