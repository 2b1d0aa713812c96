pub mod Lines
pub mod LineLemmas
pub mod CallerLemmas
