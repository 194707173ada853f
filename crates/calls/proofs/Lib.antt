pub mod Run
pub mod Demanded
pub mod Possible
