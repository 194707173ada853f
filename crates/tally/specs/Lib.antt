pub mod Places
pub mod Shares
pub mod Entry
pub mod Room
pub mod Vectors
