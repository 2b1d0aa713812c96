pub mod Digits
pub mod Bounding
