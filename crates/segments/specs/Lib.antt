pub mod Listing
pub mod Marks
pub mod Naming
pub mod Pieces
pub mod Version
pub mod Segment
pub mod Ends
pub mod Torn
