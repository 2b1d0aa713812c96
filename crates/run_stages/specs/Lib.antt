pub mod FirstLine
pub mod Implementations
pub mod Stages
