pub mod Members
pub mod Happened
pub mod Contexts
pub mod Verdicts
pub mod Ending
pub mod Run
