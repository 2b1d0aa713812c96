pub mod Unique
pub mod Same
