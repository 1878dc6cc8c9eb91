pub mod LeftLemmas
pub mod LogLemmas
