pub mod Running
pub mod Replaying
pub mod Meaning
