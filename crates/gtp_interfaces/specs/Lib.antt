-- what clauses of public functions speak of
pub mod Header
pub mod Any
pub mod S11
pub mod Interface
