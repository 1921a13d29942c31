pub mod Counts
pub mod Streams
pub mod Parts
pub mod Lines
