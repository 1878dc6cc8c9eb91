pub mod Batch
pub mod Laws
pub mod Progress
pub mod Sound
pub mod World
