pub mod Spelling
pub mod Naming
