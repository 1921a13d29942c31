pub mod Outcomes
pub mod States
pub mod Each
pub mod Owed
