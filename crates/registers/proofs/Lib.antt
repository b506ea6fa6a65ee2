-- Rows: what all rows have. Laws: reading and storing. Pins, Transfer: masks against the rules.
pub mod Rows
pub mod Laws
pub mod Pins
pub mod Transfer
pub mod Transaction
pub mod OneOutcome
