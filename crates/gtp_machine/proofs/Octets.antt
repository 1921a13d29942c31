-- What octets read as.
pub mod Faults
pub mod ByName
pub mod ByGrammar
pub mod Datagrams
pub mod Readings
pub mod Spelled
pub mod Pairs
pub mod AsOctets
