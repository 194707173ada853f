pub mod Filters
pub mod Passes
