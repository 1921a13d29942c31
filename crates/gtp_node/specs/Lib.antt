-- what clauses of public functions speak of
pub mod Places
pub mod Routing
pub mod Network
