pub mod Bits
pub mod Fcs
pub mod Frame
