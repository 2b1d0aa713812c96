pub mod Words
pub mod Scanning
pub mod Numbers
pub mod Reading
pub mod Uniqueness
