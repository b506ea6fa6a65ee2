-- The chip's state: what it holds at power-on, when it is in range, and how it is spelled in bytes.
pub mod State
pub mod Bytes
