pub mod Fit
pub mod Laws
pub mod Payload
pub mod Reading
pub mod Tables
