pub mod Replying
pub mod Whole
