pub mod Tokens
pub mod Told
pub mod Seen
pub mod Shallow
pub mod Reading
pub mod FaultPlaces
pub mod OneLine
pub mod OneReading
