pub mod Frame
pub mod Transmit
pub mod Inner
pub mod Stuffing
pub mod Pen
