pub mod Walk
pub mod Carried
pub mod Ranked
