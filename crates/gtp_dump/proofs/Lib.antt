pub mod Walk
pub mod Plain
pub mod Texts
pub mod Offsets
pub mod Keeping
pub mod Ending
pub mod Going
