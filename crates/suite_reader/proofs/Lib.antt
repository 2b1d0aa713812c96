pub mod Leading
pub mod Worded
pub mod Checking
pub mod Stepping
pub mod Ending
pub mod SoFar
