-- A step is determined, but for what is chosen.
pub mod Alike
pub mod Witnesses
pub mod Chosen
pub mod Commands
pub mod Answers
pub mod Responses
pub mod Steps
pub mod Ticks
