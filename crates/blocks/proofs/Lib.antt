mod BitsLemmas
mod CopiesLemmas
mod CutsLemmas
mod EncodingLemmas
mod FitLemmas
mod IntsLemmas
mod LawsLemmas
mod ReadLemmas
mod RunLemmas
mod SpreadLemmas
mod TextsLemmas
mod ZerosLemmas
mod PushLemmas
pub mod CallerLemmas
