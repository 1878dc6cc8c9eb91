pub mod Bounds
pub mod Column
pub mod Rows
pub mod Spans
pub mod Stable
