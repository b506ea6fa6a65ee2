-- The journal of document 01: the ring's layout, and the record that an event leaves.
pub mod Layout
pub mod Record
pub mod Inner
