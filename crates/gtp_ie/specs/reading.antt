-- Reading functions, for private contracts, models of private fields and proofs: lemmas join them to the relations that public clauses cite.
pub mod View
pub mod Index
pub mod Spelling
