pub mod Bytes
pub mod Column
pub mod Laws
pub mod Reading
pub mod Stored
pub mod Vectors
