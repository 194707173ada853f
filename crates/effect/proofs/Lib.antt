pub mod Swept
pub mod Parts
