pub mod Durable
pub mod Journaled
pub mod Laws
pub mod Spelled
