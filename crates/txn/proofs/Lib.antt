mod ReadsLemmas
mod TxnLemmas
mod EditLemmas
mod MarkLemmas
mod VersionLemmas
pub mod CallerLemmas
pub mod Crossing
