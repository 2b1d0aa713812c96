pub mod Table
pub mod Firing
pub mod Plan
pub mod Fitting
pub mod Forms
pub mod Reading
pub mod inside
