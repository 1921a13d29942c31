-- Reading functions, for private contracts and proofs.
pub mod Tokens
pub mod Second
