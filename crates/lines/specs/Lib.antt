pub mod Text
pub mod Extended
pub mod Event
pub mod Panel
pub mod Figures
