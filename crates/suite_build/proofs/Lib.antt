pub mod Counting
pub mod Entered
pub mod Exact
pub mod CallerLemmas
