pub mod Cuts
pub mod inside
