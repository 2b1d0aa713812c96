pub mod Blocks
pub mod Quotient
