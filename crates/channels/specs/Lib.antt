-- The channels: their rows, their groups, the errors, what is performed, the open starts. Each file after those that it uses.
pub mod Rows
pub mod Groups
pub mod Errors
pub mod Perform
pub mod Starts
pub mod Inner
