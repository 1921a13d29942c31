pub mod Explained
pub mod Meanings
pub mod Words
