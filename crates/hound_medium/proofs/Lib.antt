pub mod Overlays
pub mod Inside
pub mod Taking
pub mod Reading
pub mod Spans
pub mod Torn
pub mod Outcomes
