pub mod Fitting
pub mod Own
pub mod Recovered
pub mod Replayed
