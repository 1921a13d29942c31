-- what clauses of public functions, public traits and laws speak of
pub mod Chain
pub mod Headed
pub mod Flags
pub mod Header
pub mod Element
pub mod Message
pub mod Datagram
pub mod Encoding
pub mod Codes
-- reading functions, for private contracts, models of private fields and proofs: specs/reading.antt lists them
pub mod reading
