-- How a listing is played: each line, the whole from all input bytes to all output bytes, and the same in parts.
pub mod Play
pub mod Parts
