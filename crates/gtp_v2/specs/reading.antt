-- Reading functions, for private contracts, models of private fields and proofs: lemmas join them to the relations that public clauses cite.
pub mod Headed
pub mod Rows
pub mod Message
pub mod Pair
pub mod Places
pub mod Outcome
pub mod Lines
pub mod Checked
pub mod Viewed
pub mod Instances
