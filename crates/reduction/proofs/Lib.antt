pub mod Numbering
pub mod Splitting
pub mod Rounds
pub mod Picking
pub mod Quotients
