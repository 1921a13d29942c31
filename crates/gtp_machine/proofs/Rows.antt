-- The rows of both gateways, each of which keeps what is known.
pub mod Common
pub mod Taking
pub mod Control
pub mod Serving
pub mod Packet
pub mod Stepping
