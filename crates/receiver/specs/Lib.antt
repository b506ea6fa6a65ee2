pub mod Receiver
pub mod Received
pub mod Receive
pub mod Inner
