pub mod Reached
pub mod Explored
pub mod Abstraction
pub mod inside
