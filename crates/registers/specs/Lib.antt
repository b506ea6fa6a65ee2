-- The registers, and what a pin sample, an SPI transfer and the end of an I2C transaction make of them.
pub mod Registers
pub mod Pins
pub mod Transfer
pub mod Transaction
