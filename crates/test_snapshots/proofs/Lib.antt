mod LayerLemmas
mod VersionLemmas
mod FoldLemmas
