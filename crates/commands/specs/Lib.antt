-- Document 01's table of commands, channel by channel, and document 02's for the masters; Channels puts it together.
pub mod Request
pub mod Command
pub mod Controller
pub mod Spi
pub mod Gpio
pub mod Field
pub mod I2c
pub mod Seu
pub mod ChipId
pub mod Dac
pub mod Channels
