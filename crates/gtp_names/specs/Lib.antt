pub mod Groups
pub mod Parts
pub mod Telling
