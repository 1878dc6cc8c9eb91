pub mod Images
pub mod Laws
pub mod Mark
pub mod Reading
