-- What functions of this crate promise one another.
pub mod Said
pub mod Kept
pub mod Answer
