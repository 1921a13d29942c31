-- What TEIDs, contexts and packets go back to.
pub mod Drawing
pub mod Contexts
pub mod Entries
pub mod Naming
