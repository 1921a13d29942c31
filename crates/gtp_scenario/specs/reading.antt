-- For private contracts and proofs.
pub mod Faultless
pub mod Halted
