-- What functions of this crate promise one another.
pub mod Words
pub mod Lines
pub mod Reader
