-- Finite maps, numbers that may be absent, and counters that go round.
pub mod Facts
pub mod FiniteMaps
pub mod Options
pub mod Counting
pub mod Ages
pub mod Kinds
pub mod Datagrams
pub mod Templates
pub mod Types
pub mod Finishing
pub mod Versions
