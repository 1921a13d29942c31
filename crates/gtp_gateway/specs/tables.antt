-- Changes of sessions, bearers and TEIDs that several procedures share.
pub mod Change
pub mod Codes
pub mod Opening
pub mod Removal
pub mod Stays
pub mod Teids
