pub mod Outputs
pub mod PackAnswers
pub mod ShowAnswers
