pub mod Inputs
pub mod Runs
pub mod Replays
pub mod Generated
pub mod Means
