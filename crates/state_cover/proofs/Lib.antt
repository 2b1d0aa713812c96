pub mod CallerLemmas
pub mod Naming
pub mod Covering
