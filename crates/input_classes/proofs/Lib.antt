pub mod Finding
pub mod Witnesses
pub mod Few
pub mod One
pub mod CallerLemmas
