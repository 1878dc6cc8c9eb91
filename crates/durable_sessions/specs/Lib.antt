pub mod Payloads
pub mod Staged
pub mod Queues
pub mod Laws
pub mod Endings
