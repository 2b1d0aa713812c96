pub mod Names
pub mod Sums
pub mod Guards
pub mod Runs
pub mod Answers
pub mod inside
