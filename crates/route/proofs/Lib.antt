pub mod Numbers
pub mod Applied
pub mod Listed
pub mod Whole
pub mod Determined
pub mod Results
pub mod Reread
