-- What functions of this crate promise one another.
pub mod Runs
pub mod Lines
pub mod Chains
