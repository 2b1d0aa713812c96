pub mod Arms
pub mod Ending
