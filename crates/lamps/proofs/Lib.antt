pub mod Words
pub mod Counts
pub mod Lit
pub mod Shown
pub mod LowestLamp
pub mod Determined
pub mod Claimed
