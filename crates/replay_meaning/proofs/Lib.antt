pub mod Counting
pub mod Shaped
pub mod Naming
pub mod Dividing
pub mod Printed
