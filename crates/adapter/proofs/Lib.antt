pub mod Cases
pub mod Laws
pub mod Same
pub mod OneOutcome
