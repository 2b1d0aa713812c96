pub mod Sums
pub mod Adding
pub mod Places
pub mod Moderate
pub mod Kept
pub mod Walks
pub mod CallerLemmas
