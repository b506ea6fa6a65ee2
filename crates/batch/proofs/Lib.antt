pub mod Wrong
pub mod Course
pub mod Given
pub mod Called
pub mod OneOutcome
