-- What holds of the world in each run.
pub mod Hearing
pub mod Kept
pub mod Ticking
pub mod Coming
pub mod Runs
pub mod Safety
pub mod Beginning
pub mod Possible
pub mod Sendable
pub mod Further
pub mod Templates
pub mod Logs
pub mod Configs
pub mod Answering
