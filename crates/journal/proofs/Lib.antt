pub mod Formats
pub mod OneOutcome
pub mod Ring
pub mod Enlarged
pub mod Pieces
pub mod Record
