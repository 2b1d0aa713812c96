-- What functions of this crate promise one another.
pub mod Region
pub mod Node
pub mod Outcome
pub mod Places
