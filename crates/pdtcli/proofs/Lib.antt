pub mod RunLemmas
mod ClientsLemmas
mod ToldLemmas
mod OutputLemmas
mod BatchLemmas
mod RecordsLemmas
mod ProgramLemmas
mod CountLemmas
pub mod CallerLemmas
