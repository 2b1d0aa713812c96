pub mod Guard
pub mod States
pub mod Chart
pub mod Box
pub mod Cuts
