pub mod AgainLemmas
pub mod FrameLemmas
pub mod ReadLemmas
pub mod TakesLemmas
pub mod WholeLemmas
mod WorkedColumns
