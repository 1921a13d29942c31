-- Reading functions, for private contracts, models of private fields and proofs: lemmas join them to the relations that public clauses cite.
pub mod Headed
pub mod Walk
pub mod Chained
pub mod Elements
pub mod Gathered
pub mod Message
pub mod Viewed
