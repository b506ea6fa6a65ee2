pub mod Written
pub mod Pens
pub mod Same
pub mod Bounds
