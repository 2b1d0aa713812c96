pub mod ExactPartition
pub mod Split
pub mod inside
