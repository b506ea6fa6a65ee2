-- The bench listing: characters, what a line says, and what its answer line says.
pub mod Characters
pub mod Line
pub mod Answer
