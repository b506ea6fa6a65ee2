-- Laws of the link's control field, and one outcome for each call.
pub mod Laws
pub mod OneOutcome
