pub mod Joining
pub mod Pooling
pub mod Passing
