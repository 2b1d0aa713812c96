pub mod Dividing
pub mod Proper
pub mod Cutting
pub mod Putting
