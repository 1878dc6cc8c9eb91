pub mod GroupLogLemmas
pub mod ReopenedLemmas
