pub mod Output
pub mod Shown
