-- What is sent, and messages as octets.
pub mod Own
pub mod Sent
pub mod Spelled
