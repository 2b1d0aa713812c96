-- What functions of this crate promise one another.
pub mod Exploring
pub mod Branches
