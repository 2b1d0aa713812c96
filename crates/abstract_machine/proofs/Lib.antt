pub mod Keys
pub mod Reaching
pub mod Searching
pub mod Making
pub mod Abstracting
pub mod Lifted
pub mod Counting
pub mod Branching
