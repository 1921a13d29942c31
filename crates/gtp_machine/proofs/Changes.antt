-- What a step changes, and what it leaves.
pub mod Shrinking
pub mod Matching
pub mod Steps
pub mod After
pub mod Carrying
pub mod Forgetting
