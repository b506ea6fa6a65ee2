-- A batch of pin samples: what it is, and how code walks it.
pub mod Batch
pub mod Inner
