pub mod Proper
pub mod Reading
