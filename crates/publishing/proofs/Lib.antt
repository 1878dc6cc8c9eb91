pub mod Beginnings
pub mod Adding
pub mod Steps
pub mod CommitsLemmas
pub mod ListedLemmas
pub mod ItemLemmas
pub mod CallerLemmas
