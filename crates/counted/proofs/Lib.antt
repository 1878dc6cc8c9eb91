mod BulkLemmas
mod Descents
mod Leads
mod InPlace
mod Leaves
mod Paths
mod BranchesLemmas
mod Places
mod Runs
mod Searches
mod Totals
pub mod Crossing
pub mod CallerLemmas
