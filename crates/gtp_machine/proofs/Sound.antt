-- A gateway alone stays sound, whatever comes to it, and has an effect.
pub mod Parts
pub mod Addresses
pub mod Changes
pub mod Rows
pub mod Free
pub mod Steps
pub mod Reads
pub mod Ticks
pub mod Broken
