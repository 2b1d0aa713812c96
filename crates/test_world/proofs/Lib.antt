pub mod Growing
pub mod Loading
pub mod Places
pub mod Sound
pub mod Writing
