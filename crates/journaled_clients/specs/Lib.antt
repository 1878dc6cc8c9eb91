pub mod Marked
pub mod Clients
pub mod Transcripts
pub mod Run
pub mod Laws
