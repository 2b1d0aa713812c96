pub mod Keys
pub mod Stepping
pub mod Numbers
pub mod Answering
pub mod Expecting
pub mod CallerLemmas
