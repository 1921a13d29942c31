pub mod Elsewhere
pub mod Text
pub mod Row
pub mod Flaw
pub mod Entries
pub mod Held
pub mod Hint
pub mod Decoded
