pub mod Batch
pub mod GroupLog
pub mod Laws
pub mod Reopened
