pub mod First
pub mod Exact
pub mod Routing
pub mod Pairs
