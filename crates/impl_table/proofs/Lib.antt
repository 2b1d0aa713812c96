pub mod Replies
pub mod Rows
pub mod Small
pub mod Keeping
pub mod Whole
pub mod Differences
pub mod Steps
pub mod Chaining
