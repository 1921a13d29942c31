pub mod FramesShown
pub mod Choosing
pub mod Texts
pub mod Failures
