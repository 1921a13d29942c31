-- What one gateway makes for a request, and which answers it holds and sends.
pub mod Holding
pub mod ActsOnce
pub mod Replying
pub mod Opening
pub mod Versions
