pub mod AppendedLemmas
pub mod CutLemmas
pub mod EndLemmas
pub mod FramesLemmas
pub mod GenerationsLemmas
pub mod GrammarLemmas
pub mod HeaderLemmas
pub mod ImageFramesLemmas
pub mod ImageLemmas
pub mod NewestLemmas
pub mod PartsLemmas
pub mod PiecesLemmas
pub mod ReadyLemmas
pub mod StoreLemmas
pub mod TurnsLemmas
pub mod WantedLemmas
pub mod WholeLemmas
mod WorkedStores
