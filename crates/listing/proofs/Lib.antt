pub mod Hex
pub mod Writing
pub mod Reading
pub mod OneOutcome
