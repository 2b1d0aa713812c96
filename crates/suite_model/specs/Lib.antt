pub mod Suite
pub mod Pooled
pub mod Replies
pub mod Scratch
pub mod Text
