pub mod Journaled
pub mod Laws
pub mod Recovery
pub mod Run
