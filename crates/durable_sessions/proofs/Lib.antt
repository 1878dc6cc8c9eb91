pub mod PayloadsLemmas
pub mod QueuedLemmas
pub mod CrashLemmas
pub mod UpkeepLemmas
pub mod SessionLemmas
pub mod StagedLemmas
pub mod Crossing
