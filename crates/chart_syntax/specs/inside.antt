-- What functions of this crate promise one another.
pub mod Answers
pub mod Promises
