pub mod Arrays
pub mod Objects
pub mod Judged
pub mod Lines
pub mod Depths
