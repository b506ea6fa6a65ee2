-- The link alone.
pub mod Link
