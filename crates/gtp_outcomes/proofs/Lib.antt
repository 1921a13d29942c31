pub mod Texts
pub mod Each
pub mod Numbered
