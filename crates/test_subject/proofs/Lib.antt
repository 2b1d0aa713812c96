pub mod Verdicts
pub mod Replies
pub mod Places
pub mod CallerLemmas
