-- The clauses of a gateway's calls leave one answer.
pub mod Told
pub mod Datagram
pub mod Pair
pub mod Command
