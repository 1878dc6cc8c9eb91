pub mod Edit
pub mod Marks
pub mod Txn
pub mod Version
