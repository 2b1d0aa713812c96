pub mod Items
pub mod State
pub mod Checks
pub mod Reading
pub mod inside
pub mod Printable
