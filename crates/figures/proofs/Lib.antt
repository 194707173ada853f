pub mod Refused
pub mod Tables
pub mod Runs
