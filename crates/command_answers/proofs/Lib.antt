pub mod Printing
pub mod One
pub mod Seen
pub mod Piping
