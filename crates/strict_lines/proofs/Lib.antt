pub mod Counting
pub mod Back
pub mod Cutting
pub mod Joining
pub mod CallerLemmas
