-- Owners: what all rows have. Cases: what a command switches, what is held. Laws: for what stands above.
pub mod Owners
pub mod Cases
pub mod Laws
pub mod OneOutcome
