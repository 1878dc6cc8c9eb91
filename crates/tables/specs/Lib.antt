pub mod Meant
pub mod Recovery
