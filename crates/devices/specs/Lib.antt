pub mod Appending
pub mod Device
pub mod Image
pub mod Laws
pub mod Ready
pub mod Store
pub mod Stored
pub mod Turns
