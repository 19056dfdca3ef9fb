pub mod Decimals
pub mod Leading
pub mod Saying
