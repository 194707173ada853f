pub mod Extended
pub mod Decimals
pub mod Lengths
pub mod Joined
pub mod Rows
pub mod Takers
