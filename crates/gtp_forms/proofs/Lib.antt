pub mod Events
pub mod Steps
pub mod Covering
pub mod Labels
pub mod AsMembers
pub mod Letters
pub mod Names
