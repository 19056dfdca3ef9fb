pub mod Recording
pub mod Recorder
pub mod Repairer
pub mod Twelve
pub mod Memory
