pub mod Claims
pub mod Adding
