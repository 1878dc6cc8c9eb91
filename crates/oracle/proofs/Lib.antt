pub mod OrderedMapLemmas
pub mod ReplayLemmas
