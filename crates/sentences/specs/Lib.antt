pub mod Quoting
pub mod Headings
pub mod Cells
pub mod Keys
pub mod Tables
pub mod Arguments
pub mod Scripts
