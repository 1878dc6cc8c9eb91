pub mod EscapeLemmas
pub mod HeaderLemmas
