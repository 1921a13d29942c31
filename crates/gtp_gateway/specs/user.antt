-- The user plane.
pub mod Accepted
pub mod ErrorIndication
pub mod Receive
pub mod Reply
