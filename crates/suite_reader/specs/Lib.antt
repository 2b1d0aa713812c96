pub mod Errors
pub mod inside
