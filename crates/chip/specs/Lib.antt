-- Document 01's chip: what a reader believes. `Chip.reaction` is the machine; the other files hold its parts, each after those that it uses.
pub mod Event
pub mod Numbers
pub mod Answer
pub mod Inner
pub mod Request
pub mod Frame
pub mod Chip
pub mod Group
