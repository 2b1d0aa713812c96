pub mod Suites
pub mod inside
