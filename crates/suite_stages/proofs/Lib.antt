pub mod Boxes
pub mod Reaching
pub mod Suiting
pub mod Proper
