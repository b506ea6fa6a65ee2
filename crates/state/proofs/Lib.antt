pub mod Good
pub mod Spelling
pub mod OneOutcome
