pub mod Over
pub mod Passing
pub mod Propagation
pub mod Serialization
pub mod Walk
pub mod Held
pub mod Passage
pub mod Shifts
