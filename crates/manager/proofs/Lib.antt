mod PassingLemmas
mod HistoryLemmas
mod KeptLemmas
mod ChangesLemmas
mod GrantLemmas
mod PreparedLemmas
mod FoldLemmas
mod CutLemmas
mod OwnLemmas
mod CheckpointLemmas
mod RestackLemmas
mod CommitLemmas
mod RedoLemmas
pub mod CallerLemmas
pub mod Crossing
