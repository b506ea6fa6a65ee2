-- The public calls: what refuses a call, in which order, and what each call gives and leaves.
pub mod Answers
pub mod Refusals
pub mod Calls
pub mod Inner
