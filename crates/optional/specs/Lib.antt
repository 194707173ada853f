pub mod Part
pub mod Search
pub mod List
pub mod Write
pub mod Survey
pub mod Claims
