pub mod End
pub mod Table
