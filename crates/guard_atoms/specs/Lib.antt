pub mod Atoms
pub mod Answers
pub mod inside
