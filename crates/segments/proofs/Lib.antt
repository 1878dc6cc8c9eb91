pub mod ListingLemmas
pub mod SegmentLemmas
pub mod EndLemmas
pub mod TornLemmas
