pub mod Machine
pub mod Answers
pub mod Search
pub mod Reduction
pub mod inside
