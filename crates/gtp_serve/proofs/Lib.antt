pub mod Roles
pub mod Going
pub mod Faultless
pub mod Peers
