pub mod Manifest
pub mod Reading
pub mod Version
pub mod FileName
pub mod Types
