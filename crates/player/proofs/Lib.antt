pub mod Feeding
pub mod Whole
pub mod OneOutcome
