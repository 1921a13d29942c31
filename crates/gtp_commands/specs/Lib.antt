pub mod Status
pub mod Stops
pub mod Shown
pub mod Replayed
pub mod Words
pub mod Captured
pub mod Flags
