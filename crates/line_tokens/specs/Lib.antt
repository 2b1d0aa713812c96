pub mod Lines
pub mod Spelling
pub mod Tokens
pub mod Limits
pub mod Front
