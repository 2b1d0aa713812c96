pub mod Turns
pub mod Running
pub mod Testing
pub mod Driving
