pub mod Play
pub mod Ends
