-- The control room's end of the link: its record of open transactions, and what each of its calls gives and leaves.
pub mod Given
pub mod Record
pub mod Calls
