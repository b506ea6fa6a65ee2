-- What no table has, and one outcome for each call.
pub mod Laws
pub mod OneOutcome
