pub mod Device
pub mod Laws
pub mod Left
pub mod Log
