pub mod Suited
pub mod Proper
