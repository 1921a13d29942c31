mod Held
pub mod Written
pub mod Lines
