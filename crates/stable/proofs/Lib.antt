mod ExtendLemmas
mod BelowLemmas
mod BoundsLemmas
mod FaultLemmas
mod GatherLemmas
mod HalvingLemmas
mod ColumnLemmas
mod ColumnsLemmas
mod NumberLemmas
mod PushLemmas
mod RankLemmas
mod RowsLemmas
mod RunLemmas
mod SpanLemmas
mod StableLemmas
mod StandLemmas
mod WholeLemmas
pub mod CallerLemmas
