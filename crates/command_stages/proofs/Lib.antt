pub mod Stages
pub mod Proper
pub mod Serving
pub mod Readers
pub mod Finishing
pub mod ProperBy
pub mod Lines
