pub mod Implementing
pub mod Fits
pub mod Judging
pub mod Proper
