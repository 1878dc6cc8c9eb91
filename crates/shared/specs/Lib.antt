pub mod Faults
pub mod Sessions
pub mod Endings
pub mod Generations
pub mod Stands
pub mod Laws
