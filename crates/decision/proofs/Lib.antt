pub mod Named
pub mod Nowhere
