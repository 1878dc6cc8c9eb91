pub mod Lent
pub mod Orders
pub mod Shape
pub mod Shared
pub mod Shown
