mod SearchLemmas
mod CountLemmas
mod ChangesLemmas
mod OrderLemmas
mod LawfulLemmas
mod PutLemmas
mod LookupLemmas
mod RangesLemmas
mod PositionsLemmas
mod GapLemmas
mod WalkLemmas
mod LengthLemmas
mod LawsLemmas
mod CountedLemmas
mod RidLemmas
mod RowLemmas
mod AheadLemmas
mod KeyPlaceLemmas
mod RowCountLemmas
mod BySidLemmas
pub mod CallerLemmas
pub mod Words
