-- The exchange that makes a session.
pub mod Held
pub mod Nodes
pub mod Texts
pub mod Ranges
pub mod Added
pub mod Made
pub mod Possible
