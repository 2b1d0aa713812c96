pub mod Lines
pub mod Growing
pub mod Failing
pub mod Objects
