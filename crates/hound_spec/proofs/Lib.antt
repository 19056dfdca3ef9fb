pub mod FmtLemmas
pub mod HeaderLemmas
pub mod WritableLemmas
