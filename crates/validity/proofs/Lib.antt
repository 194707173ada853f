pub mod Orders
pub mod Determined
pub mod Firsts
pub mod Codes
