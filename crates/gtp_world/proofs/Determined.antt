-- Worlds that follow the same events from one setup are alike.
pub mod Placed
pub mod Commands
pub mod Opening
pub mod Lasting
pub mod Steps
pub mod Runs
