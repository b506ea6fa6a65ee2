-- The laws of the record, the cases of each call, and one outcome for each.
pub mod Laws
pub mod Cases
pub mod Same
pub mod OneOutcome
