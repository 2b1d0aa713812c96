pub mod Subject
pub mod Verdict
pub mod Exchange
pub mod Script
