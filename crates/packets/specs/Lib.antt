-- Requests and replies, byte by byte.
pub mod Packets
