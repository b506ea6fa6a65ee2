-- Laws of words in bodies, and one outcome for each call.
pub mod Laws
pub mod OneOutcome
