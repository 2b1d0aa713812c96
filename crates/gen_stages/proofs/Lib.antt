pub mod Proper
pub mod Piping
