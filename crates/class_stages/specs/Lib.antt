pub mod Classes
pub mod Cutting
pub mod Text
pub mod inside
