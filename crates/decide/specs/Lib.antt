pub mod Listing
pub mod Output
pub mod Shown
