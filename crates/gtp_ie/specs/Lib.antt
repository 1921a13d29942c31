-- what clauses of public functions, public traits and laws speak of
pub mod Element
pub mod View
pub mod Walked
pub mod Layout
pub mod Form
pub mod Digits
pub mod Value
pub mod Parts
pub mod Octets
pub mod Text
pub mod Spelling
pub mod Free
pub mod Codes
-- reading functions, for private contracts, models of private fields and proofs: specs/reading.antt lists them
pub mod reading
