pub mod Bits
pub mod Tests
pub mod Check
pub mod Residue
pub mod OneOutcome
