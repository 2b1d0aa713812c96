pub mod Cover
pub mod Marks
pub mod Tests
