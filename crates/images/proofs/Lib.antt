pub mod CrashLemmas
pub mod MarkLemmas
pub mod MarkingLemmas
