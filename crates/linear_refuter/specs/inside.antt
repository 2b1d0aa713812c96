-- What functions of this crate promise one another.
pub mod Greatest
pub mod Halving
pub mod Decision
pub mod Ends
pub mod Looking
pub mod Parting
